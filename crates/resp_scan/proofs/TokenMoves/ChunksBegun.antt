-- Whole chunks of a streamed string, as a token has them.
use Rattle.std.proofs.Common.{◌≡◌, ℕ, List, ◌∷◌, ◌++◌, ap, ◌∙◌, arith}
use Rattle.resp_value.specs.Bytes.{crlf}
use Rattle.resp_value.specs.Rules.{Rules}
use Rattle.resp_value.proofs.Unique.{chunks_text-append}
use Rattle.resp_fronts.specs.Events.{Event}
use Rattle.resp_fronts.proofs.Tokens.ChunkTokens.{AreWhole, streamed_text}
use Rattle.resp_scan.specs.Machine.Beginnings.{ChunksBegun}

-- they are within the limit of length
pub are_whole : {r : Rules} {room : ℕ} {begun : List ℕ} {level : ℕ} {bytes : List ℕ} {shown : List Event} (w : ChunksBegun r room begun level bytes shown) →
    AreWhole r w.chunks
are_whole w = record { has_streamed = w.has_streamed; are_chunks = w.are_chunks; fits = omega (arith, w.leaves) }

-- their text and more bytes
pub text_more : {r : Rules} {room : ℕ} {begun : List ℕ} {level : ℕ} {bytes : List ℕ} {shown : List Event} (more : List ℕ)
    (w : ChunksBegun r room begun level bytes shown) → bytes ++ more ≡ streamed_text w.chunks (begun ++ more)
text_more {begun = begun} more w = ap (λ z. z ++ more) w.are ∙ ap (λ z. 36 ∷ 63 ∷ crlf z) (chunks_text-append w.chunks begun more)

-- more bytes are begun after them
pub chunks_more : (r : Rules) (room : ℕ) (begun more : List ℕ) (level : ℕ) (bytes : List ℕ) (shown : List Event) → ChunksBegun r room begun level bytes shown →
    ChunksBegun r room (begun ++ more) level (bytes ++ more) shown
chunks_more r room begun more level bytes shown w = record {
  chunks = w.chunks;
  are_chunks = w.are_chunks;
  has_streamed = w.has_streamed;
  leaves = w.leaves;
  are = text_more more w;
  told = w.told;
}
