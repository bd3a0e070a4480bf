use Rattle.std.proofs.Common.{◌≡◌, ◌++◌, OnOk, subst}
use Rattle.resp_value.specs.Canonical.{canonical_text}
use Rattle.resp_value.specs.Data.{scalar}
use Rattle.resp_value.specs.Data as d
use Rattle.resp_cli_stream.proofs.draft.append_text.Goals as goal

pub returns-in-Simple : goal.returns-in-Simple
returns-in-Simple c = λ version. rw c.in-Simple.is (c.simple.ensures version).appended

pub returns-in-Error : goal.returns-in-Error
returns-in-Error c = λ version. rw c.in-Error.is (c.error.ensures version).appended

pub returns-in-Double : goal.returns-in-Double
returns-in-Double c = λ version. rw c.in-Double.is (c.double.ensures version).appended

pub returns-in-Bulk : goal.returns-in-Bulk
returns-in-Bulk c = λ version. rw c.in-Bulk.is (c.bulk.ensures version).appended

pub returns-in-BulkError : goal.returns-in-BulkError
returns-in-BulkError c = λ version. rw c.in-BulkError.is (c.bulk_error.ensures version).appended

pub returns-in-Verbatim : goal.returns-in-Verbatim
returns-in-Verbatim c = λ version. rw c.in-Verbatim.is (c.verbatim.ensures version).appended

pub returns-in-Big : goal.returns-in-Big
returns-in-Big c = λ version. rw c.in-Big.is
    (subst (λ digits. OnOk c.big.result (c.big.new.out.items ≡ c.args.text.now.items ++ canonical_text version (scalar (d.Big c.in-Big.negative digits))))
    c.digits_of.ensures (c.big.ensures version).appended)
