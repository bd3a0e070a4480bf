use Rattle.std.proofs.Common.{◌∙◌, sym}
use Rattle.resp_tap.proofs.KeyPlaces.{by_row}
use Rattle.resp_tap.proofs.keys.has_key.Goals as goal

pub returns : goal.returns
returns c =
    by_row c.args.glob.now c.args.words.now c.name_in-name.result.now c.first_argument.result c.in-Some.row.now c.has_key_at.result c.name_in-name.ensures
    c.first_argument.ensures c.in-Some.ensures.known (sym c.has_channels.ensures ∙ c.if-has_channels.false) (c.has_key_at.ensures c.in-Some.row.now.keys c.places_of.ensures)
