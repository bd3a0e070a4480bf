-- Worked examples of commands with secret words.
use Rattle.std.specs.Prelude.{◌≡◌, ℕ, List, [], ◌∷◌, codes}
use Rattle.resp_tap.specs.Secrets.{redacted}

-- what is printed in place of a secret word
abbrev pub hidden : List ℕ
hidden = codes "(redacted)"

pub record SecretsAreRedactedSo : Type 0 where
  pub auth : redacted (codes "AUTH" ∷ codes "ann" ∷ codes "pw" ∷ []) ≡ codes "AUTH" ∷ hidden ∷ hidden ∷ []
  pub hello : redacted (codes "HELLO" ∷ codes "3" ∷ codes "AUTH" ∷ codes "ann" ∷ codes "pw" ∷ codes "SETNAME" ∷
      codes "me" ∷ []) ≡ codes "HELLO" ∷ codes "3" ∷ codes "AUTH" ∷ hidden ∷ hidden ∷ codes "SETNAME" ∷ codes "me" ∷ []
  pub migrate : redacted (codes "MIGRATE" ∷ codes "AUTH" ∷ codes "pw" ∷ codes "KEYS" ∷ codes "a" ∷ []) ≡
      codes "MIGRATE" ∷ codes "AUTH" ∷ hidden ∷ codes "KEYS" ∷ codes "a" ∷ []
  pub migrate_of_user : redacted (codes "migrate" ∷ codes "auth2" ∷ codes "ann" ∷ codes "pw" ∷ codes "KEYS" ∷ []) ≡
      codes "migrate" ∷ codes "auth2" ∷ hidden ∷ hidden ∷ codes "KEYS" ∷ []
  pub acl : redacted (codes "ACL" ∷ codes "SETUSER" ∷ codes "ann" ∷ codes ">pw" ∷ []) ≡
      codes "ACL" ∷ codes "SETUSER" ∷ hidden ∷ hidden ∷ []
  pub settings : redacted (codes "CONFIG" ∷ codes "SET" ∷ codes "RequirePass" ∷ codes "pw" ∷ codes "port" ∷ codes "1" ∷
      []) ≡ codes "CONFIG" ∷ codes "SET" ∷ codes "RequirePass" ∷ hidden ∷ codes "port" ∷ codes "1" ∷ []
  pub name_that_looks_so : redacted (codes "HELLO" ∷ codes "3" ∷ codes "SETNAME" ∷ codes "AUTH" ∷ codes "AUTH" ∷
      codes "ann" ∷ codes "pw" ∷ []) ≡ codes "HELLO" ∷ codes "3" ∷ codes "SETNAME" ∷ codes "AUTH" ∷ hidden ∷ hidden ∷
      hidden ∷ []
  pub read_settings : redacted (codes "CONFIG" ∷ codes "GET" ∷ codes "requirepass" ∷ codes "port" ∷ []) ≡
      codes "CONFIG" ∷ codes "GET" ∷ codes "requirepass" ∷ codes "port" ∷ []
  pub other : redacted (codes "GET" ∷ codes "auth" ∷ []) ≡ codes "GET" ∷ codes "auth" ∷ []
