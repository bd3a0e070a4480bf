-- How far a text fits a glob up to its next star.
use Rattle.std.specs.Prelude.{◌≡◌, ℕ, ◌<◌, ◌≤◌, List, ◌∷◌, drop, length}
use Rattle.resp_commands.specs.Globs.{Matches, MatchesPieces, star, pieces_of}
use Rattle.resp_commands.specs.declared.glob.Fit.{Fit}
use Rattle.resp_commands.specs.declared.glob.Fit.TheVariants as fit

-- The glob has no star before the rest of it. Each text that it matches has as many bytes before its own rest.
pub record ReachesStar (glob text later rest : List ℕ) : Type 0 where
  pub count : ℕ
  pub there : rest ≡ drop count text
  pub back : MatchesPieces (star ∷ pieces_of later) rest → Matches glob text
  pub forth : (other : List ℕ) → Matches glob other → MatchesPieces (star ∷ pieces_of later) (drop count other)
  pub shorter : length later < length glob
  pub no_longer : length rest ≤ length text

abbrev pub IsFit : Fit → List ℕ → List ℕ → Type 0
IsFit fit.Whole glob text = Matches glob text
IsFit (fit.ToStar later rest) glob text = ReachesStar glob text later.now rest.now
IsFit fit.Not glob text = Matches glob text → ⊥
