-- The heads of a bulk string and of an array, where their number has one digit or two.
use Rattle.std.proofs.Common.{◌≡◌, inl, inr, ℕ, false, ◌+◌, ◌*◌, ◌≤◌, List, length, drop, Some, arith}
use Rattle.std.proofs.lemmas.Grind.{common_steps}
use Rattle.resp_value.specs.declared.kind.OpenKind.TheVariants as kind
use Rattle.resp_scan.specs.declared.event.TextKind.TheVariants as text
use Rattle.resp_scan.specs.Machine.Heads.{after_open, content_at}
use Rattle.resp_scan.specs.Machine.Room.{is_full, total_room}
use Rattle.resp_scan.specs.Machine.Scan.{Gave, scan}
use Rattle.resp_scan.specs.Machine.Tokens.{AtArrayHead, AtBulkHead, Open, Place, Text, at}
use Rattle.resp_scan.specs.Machine.Turns.{HasShortNumber}

pub text_head : (p : List ℕ) (head n : ℕ) → 5 ≤ length p → HasShortNumber p head n → (u : Place) → n ≤ u.bounds.length →
    head + n + 2 ≤ total_room u → Gave head (Text text.Bulk) (content_at n u) ≡ scan 1 (at u AtBulkHead) (drop 1 p)
text_head p head n long (inl w) u fits room = grind (arith, common_steps)
text_head p head n long (inr w) u fits room = grind (arith, common_steps)

pub array_head : (p : List ℕ) (head n : ℕ) → 5 ≤ length p → HasShortNumber p head n → (u : Place) → is_full u ≡ false → n ≤ u.bounds.items →
    head + n * 3 ≤ total_room u →
    Gave head (Open kind.Array (Some n)) (after_open u kind.Array n) ≡ scan 1 (at u AtArrayHead) (drop 1 p)
array_head p head n long (inl w) u below fits room = grind (arith, common_steps)
array_head p head n long (inr w) u below fits room = grind (arith, common_steps)
