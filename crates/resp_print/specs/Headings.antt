-- The lines before a reply and before a push to a client.
use Rattle.std.specs.Prelude.{ℕ, List, ◌++◌, codes, decimal}

-- the line before a client's reply to its command of this number
abbrev pub reply_heading : ℕ → ℕ → List ℕ
reply_heading client number =
    (codes "client " ++ decimal client ++ codes " reply ") ++ (decimal number ++ codes "\n")

-- the line before a push to a client
abbrev pub push_heading : ℕ → List ℕ
push_heading client = codes "client " ++ decimal client ++ codes " push\n"
