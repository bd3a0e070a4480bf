use Rattle.std.proofs.Common.{◌≡◌, ◌<◌, ◌∙◌, ℕ, List, get_or, map, sym, arith}
use Rattle.std.proofs.lemmas.List.{get_or_default}
use Rattle.std.specs.Char.{to_ascii_lowercase}
use Rattle.resp_commands.specs.Names.{IsAt, name_of}
use Rattle.resp_commands.specs.declared.command.Command.{Command}
use Rattle.resp_commands.specs.declared.table.TheConstants.{COMMANDS}
use Rattle.resp_commands.proofs.Found.{named_in_lower, unknown_other}
use Rattle.resp_commands.proofs.lookup.place.Goals as goal

-- the command with this name in lower case is at this place
at_place : (word : List ℕ) (place : ℕ) (e : Command) → place < 240 → map to_ascii_lowercase word ≡ name_of (get_or COMMANDS place e) → IsAt place word
at_place word place e less same = record {
  command = get_or COMMANDS place e;
  within = less;
  there = get_or_default COMMANDS place (get_or COMMANDS place e) e less;
  named = named_in_lower word place e less same;
}

pub returns-then-not-is_lower_case_of-clause-unknown : goal.returns-then-not-is_lower_case_of-clause-unknown
returns-then-not-is_lower_case_of-clause-unknown c =
    let within : c.place_of-place.result < 240 = omega (arith, c.if-place-ge240.false) in
    unknown_other c.args.name.now c.place_of-place.result _ c.place_of-place.ensures within
    (λ same. c.if-not-is_lower_case_of.ensures (same ∙ sym c.name.ensures))

pub returns-clause-found : goal.returns-clause-found
returns-clause-found c =
    let within : c.place_of-place.result < 240 = omega (arith, c.if-place-ge240.false) in
    at_place c.args.name.now c.place_of-place.result _ within (c.if-not-is_lower_case_of.ensures ∙ c.name.ensures)
