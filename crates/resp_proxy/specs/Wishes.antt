-- What commands ask for that concern the setting of their client.
use Rattle.std.specs.Prelude.{◌≡◌, ℕ, List, [], ◌∷◌, Option, None, Some, unwrap_or, if◌then◌else◌, codes}
use Rattle.std.specs.Option.{option_map}
use Rattle.std.specs.Str.{bytes_eq}
use Rattle.resp_session.specs.Operations.{is_name}
use Rattle.resp_proxy.specs.declared.setting.Login.{Login as OwnedLogin}
use Rattle.resp_proxy.specs.declared.setting.Setting.{Setting}
use Rattle.resp_proxy.specs.declared.wish.Account.{Account as LentAccount}
use Rattle.resp_proxy.specs.declared.wish.Wish.{Wish}
use Rattle.resp_proxy.specs.declared.wish.Wish.TheVariants as wish
use Rattle.resp_value.specs.declared.version.Version.{Version}
use Rattle.resp_value.specs.declared.version.Version.TheVariants.{Two, Three}

-- a user, if it is named, and a password
pub record Account : Type 0 where
  pub user : Option (List ℕ)
  pub password : List ℕ

-- the version, the database and the user in which the commands of a client run; without an account it is the proxy's own user
pub record Situation : Type 0 where
  pub version : Version
  pub database : List ℕ
  pub account : Option Account

pub data Asked : Type 0 where
  -- HELLO with a version, an account and a name, each if it is given
  Hello : Option Version → Option Account → Option (List ℕ) → Asked
  Auth : Account → Asked
  -- SELECT of the database with this word
  Select : List ℕ → Asked
  Reset : Asked
  -- one of these four commands with words that only the server judges
  Unclear : Asked
  -- another command
  Other : Asked

-- the version that a word asks for
abbrev pub version_asked : List ℕ → Option Version
version_asked word = if bytes_eq word (codes "2") then Some Two else if bytes_eq word (codes "3") then Some Three else None

-- HELLO with an account and a name, which have these words before them
abbrev pub both_asked : Version → List ℕ → Account → List ℕ → List ℕ → Asked
both_asked version auth account setname name =
    if is_name (codes "auth") auth then
    (if is_name (codes "setname") setname then Hello (Some version) (Some account) (Some name) else Unclear)
    else Unclear

-- HELLO with an option of one word
abbrev pub name_asked : Version → List ℕ → List ℕ → Asked
name_asked version setname name = if is_name (codes "setname") setname then Hello (Some version) None (Some name) else Unclear

-- HELLO with an option of two words
abbrev pub account_asked : Version → List ℕ → Account → Asked
account_asked version auth account = if is_name (codes "auth") auth then Hello (Some version) (Some account) None else Unclear

-- HELLO with a version and these words after it
abbrev pub options_asked : Version → List (List ℕ) → Asked
options_asked version [] = Hello (Some version) None None
options_asked version (a ∷ b ∷ []) = name_asked version a b
options_asked version (a ∷ b ∷ c ∷ []) = account_asked version a (record { user = Some b; password = c })
options_asked version (a ∷ b ∷ c ∷ d ∷ e ∷ []) =
    if is_name (codes "auth") a then both_asked version a (record { user = Some b; password = c }) d e
    else both_asked version c (record { user = Some d; password = e }) a b
options_asked version _ = Unclear

-- HELLO with a word for the version, if it is one, and these words after it
abbrev pub versioned : Option Version → List (List ℕ) → Asked
versioned None options = Unclear
versioned (Some version) options = options_asked version options

-- HELLO with these words
abbrev pub hello_asked : List (List ℕ) → Asked
hello_asked [] = Hello None None None
hello_asked (word ∷ options) = versioned (version_asked word) options

-- AUTH with these words
abbrev pub auth_asked : List (List ℕ) → Asked
auth_asked (password ∷ []) = Auth (record { user = None; password = password })
auth_asked (user ∷ password ∷ []) = Auth (record { user = Some user; password = password })
auth_asked _ = Unclear

-- SELECT with these words
abbrev pub select_asked : List (List ℕ) → Asked
select_asked (word ∷ []) = Select word
select_asked _ = Unclear

-- RESET with these words
abbrev pub reset_asked : List (List ℕ) → Asked
reset_asked [] = Reset
reset_asked _ = Unclear

-- what the command of these words asks for
abbrev pub asked_by : List ℕ → List (List ℕ) → Asked
asked_by name arguments =
    if is_name (codes "hello") name then hello_asked arguments else
    if is_name (codes "auth") name then auth_asked arguments else
    if is_name (codes "select") name then select_asked arguments else
    if is_name (codes "reset") name then reset_asked arguments else
    Other

-- the situation in which every client begins
abbrev pub first_situation : Situation
first_situation = record { version = Two; database = codes "0"; account = None }

-- the first, or the second if there is none
abbrev pub or_else : Option Account → Option Account → Option Account
or_else None other = other
or_else (Some account) other = Some account

-- the situation in this version and with this account, if there is one
abbrev pub with_hello : Version → Option Account → Situation → Situation
with_hello version account s = record { version = version; database = s.database; account = or_else account s.account }

-- the situation in the database with this word
abbrev pub with_database : List ℕ → Situation → Situation
with_database word s = record { version = s.version; database = word; account = s.account }

-- the situation after a command that asks for this, if it is known
abbrev pub after_asking : Asked → Situation → Option Situation
after_asking (Hello version account name) s = Some (with_hello (unwrap_or version s.version) account s)
after_asking (Auth account) s = Some (with_hello s.version (Some account) s)
after_asking (Select word) s = Some (with_database word s)
after_asking Reset s = Some first_situation
after_asking Unclear s = None
after_asking Other s = None

-- the account that is lent
abbrev pub account_lent : LentAccount → Account
account_lent a = record { user = option_map (λ word. word.now) a.user; password = a.password.now }

-- what a wish asks for
abbrev pub asked_in : Wish → Asked
asked_in (wish.Hello version account name) = Hello version (option_map account_lent account) (option_map (λ word. word.now) name)
asked_in (wish.Auth account) = Auth (account_lent account)
asked_in (wish.Select word) = Select word.now
asked_in wish.Reset = Reset
asked_in wish.Unclear = Unclear
asked_in wish.Other = Other

-- the account that is kept
abbrev pub account_kept : OwnedLogin → Account
account_kept l = record { user = option_map (λ word. word.items) l.user; password = l.password.items }

-- the situation of a setting
abbrev pub situation_of : Setting → Situation
situation_of s = record { version = s.version; database = s.database.items; account = option_map account_kept s.login }

-- the name of the user; AUTH without a name is that of the default user
abbrev pub user_of : Option Account → Option (List ℕ)
user_of None = None
user_of (Some account) = Some (unwrap_or account.user (codes "default"))

-- commands in both situations mean the same; the passwords may differ
pub record MeansSame (a b : Situation) : Type 0 where
  pub version : a.version ≡ b.version
  pub database : a.database ≡ b.database
  pub user : user_of a.account ≡ user_of b.account
