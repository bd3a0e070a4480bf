use Rattle.std.proofs.Common.{◌∙◌, ap, map, sym}
use Rattle.resp_value.specs.Data.{data_of_list}
use Rattle.resp_value.specs.Values.{datum_of}
use Rattle.resp_value.proofs.DatumOf.{datum_of-Array, datum_of-Push}
use Rattle.resp_tap.specs.Notices.{notice_in, notice_of}
use Rattle.resp_tap.proofs.notice.notice_of.Goals as goal

pub returns-in-Array : goal.returns-in-Array
returns-in-Array c =
    c.notice_in.ensures ∙ ap (λ items. notice_in (data_of_list (map datum_of items))) c.list.ensures ∙
    sym (ap (λ value. notice_of (datum_of value)) c.in-Array.is ∙ ap notice_of (datum_of-Array c.in-Array.members))

pub returns-in-Push : goal.returns-in-Push
returns-in-Push c =
    c.notice_in-in-Push.ensures ∙ ap (λ items. notice_in (data_of_list (map datum_of items))) c.list-in-Push.ensures ∙
    sym (ap (λ value. notice_of (datum_of value)) c.in-Push.is ∙ ap notice_of (datum_of-Push c.in-Push.members))
