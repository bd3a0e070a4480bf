use Rattle.resp_value.proofs.SpellingLaws.{canonical_text_spells_what_fits}
use Rattle.resp_value.proofs.laws.canonical_text_spells_what_fits.Goals as goal

pub returns : goal.returns
returns c = canonical_text_spells_what_fits
