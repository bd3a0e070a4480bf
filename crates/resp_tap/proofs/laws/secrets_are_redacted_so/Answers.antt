use Rattle.std.proofs.Common.{refl}
use Rattle.resp_tap.proofs.laws.secrets_are_redacted_so.Goals as goal

pub returns : goal.returns
returns c = record {
  auth = refl;
  hello = refl;
  migrate = refl;
  migrate_of_user = refl;
  acl = refl;
  settings = refl;
  name_that_looks_so = refl;
  read_settings = refl;
  other = refl;
}
