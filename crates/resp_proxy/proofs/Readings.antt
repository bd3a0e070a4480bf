-- How bytes are read.
use Rattle.std.proofs.Common.{◌≡◌, ◌∙◌, ℕ, true, List, [], ◌++◌, take, drop, Option, None, Some, Result, Ok, Err, inl, ap, refl, subst, sym}
use Rattle.std.specs.Prelude.{IfErr, OnOk}
use Rattle.std.proofs.lemmas.List.{append-nil, take-append-drop}
use Rattle.resp_frames.specs.declared.begun.Begun.{Begun}
use Rattle.resp_frames.specs.Framing.{HasBegun}
use Rattle.resp_board.specs.Histories.{History}
use Rattle.resp_board.specs.Runs.{unsent_on}
use Rattle.resp_board.specs.declared.board.Board.{Board}
use Rattle.resp_board.proofs.Standing.{sent-nothing}
use Rattle.resp_proxy.specs.Clients.{Holds, is_closing}
use Rattle.resp_proxy.specs.declared.client.Client.{Client}
use Rattle.resp_proxy.specs.declared.route.Route.{Route}
use Rattle.resp_proxy.specs.declared.error.ClientError.{ClientError}
use Rattle.resp_proxy.specs.declared.error.ClientError.TheVariants as error
use Rattle.resp_proxy.specs.declared.error.ServerError.{ServerError}
use Rattle.resp_proxy.specs.declared.visit.Read.{Read}
use Rattle.resp_proxy.specs.declared.visit.Read.TheVariants as read
use Rattle.resp_proxy.specs.Terms.{Terms}
use Rattle.resp_proxy.specs.Replying.{TakesReplies}
use Rattle.resp_proxy.specs.Visiting.{HaveCome, ReadsClient, ReadsServer, SendsSome, TellsRead}
use Rattle.resp_proxy.proofs.Gives.{appends-none}
use Rattle.resp_io.specs.declared.device.DeviceFault.{DeviceFault}
use Rattle.resp_io.specs.Devices.{Reads}
use Rattle.resp_value.specs.Rules.{Rules}

-- the first bytes were read
pub read-bytes : (left left' : Option (List ℕ)) (into : List ℕ) (count : ℕ) → Reads left left' into (Ok count) → HaveCome left left' (take count into)
read-bytes None left' into count r = tt
read-bytes (Some left) left' into count r =
    (drop count left, sym (take-append-drop count left) ∙ ap (λ z. z ++ drop count left) (sym r.bytes), r.beyond)

-- a read failed
pub read-nothing : (left left' : Option (List ℕ)) (into : List ℕ) (fault : DeviceFault) → Reads left left' into (Err fault) → HaveCome left left' []
read-nothing None left' into fault r = tt
read-nothing (Some left) left' into fault r = (left, refl, r)

-- nothing was read
pub not-read : (left : Option (List ℕ)) → HaveCome left left []
not-read None = tt
not-read (Some left) = (left, refl, refl)

-- no byte came from the client
pub nothing-came : (terms : Terms) (route : Route) (left left' : Option (List ℕ)) (held : List ℕ) (c : Client) (m : Board) → HaveCome left left' [] →
    Holds terms c held → (read : Read) → TellsRead read (Ok tt) [] → ReadsClient terms route left left' held c read m m
nothing-came terms route left left' held c m come h read told = record {
  came = [];
  come = come;
  end = Ok tt;
  told = told;
  takes = record {
    taken = [];
    after = held;
    last = None;
    whole = append-nil held;
    commands = tt;
    run = λ p passed. passed;
    holds = (refl, h);
    refused = tt;
    said = tt;
    shut = tt;
  };
}

-- the input ended, the client is closing, and what it holds is lost
pub ended : (terms : Terms) (route : Route) (left left' : Option (List ℕ)) (held : List ℕ) (c : Client) (m : Board) → HaveCome left left' [] →
    Holds terms c [] → is_closing c ≡ true → ReadsClient terms route left left' held c read.Ended m m
ended terms route left left' held c m come h closing = record {
  came = [];
  come = come;
  end = Err error.Closing;
  told = (refl, refl);
  takes = record {
    taken = [];
    after = held ++ [];
    last = None;
    whole = refl;
    commands = tt;
    run = λ p passed. passed;
    holds = tt;
    refused = tt;
    said = tt;
    shut = (h, closing);
  };
}

-- no byte came from the server
pub no-reply-came : (rules : Rules) (line : ℕ) (left left' : Option (List ℕ)) (front : List ℕ) (b : Begun) (m : Board) → HaveCome left left' [] →
    HasBegun rules b front → ReadsServer rules line left left' front b None (Ok tt) m m
no-reply-came rules line left left' front b m come h = record {
  came = [];
  come = come;
  counted = refl;
  takes = λ p passed. record { replies = []; after = front; whole = append-nil front; spelled = tt; run = passed; begun = h; refused = tt };
}

-- the result of a read tells what was taken
pub told-taken : (taken : Result (Unit {0}) ClientError) (result : Read) (came : List ℕ) → OnOk taken (result ≡ read.Some) →
    IfErr taken (λ e. result ≡ read.Closing e) → TellsRead result taken came
told-taken (Ok x) result came some closing = subst (λ r. TellsRead r (Ok tt) came) (sym some) refl
told-taken (Err e) result came some closing = subst (λ r. TellsRead r (Err e) came) (sym closing) (inl refl)

-- nothing was written to the server
pub none-sent : (line : ℕ) (out : Option (List ℕ)) (m : Board) → SendsSome line out out m m
none-sent line out m = record { gone = []; written = appends-none out; front = (unsent_on m line, refl); run = λ p h. sent-nothing m line p h }

-- the bytes after an error are lost, whatever is begun
pub replies-lost : (rules : Rules) (line : ℕ) (bytes : List ℕ) (b b' : Begun) (e : ServerError) (p : History) (m : Board) → TakesReplies rules line bytes b (Err e) p m →
    TakesReplies rules line bytes b' (Err e) p m
replies-lost rules line bytes b b' e p m t =
    record { replies = t.replies; after = t.after; whole = t.whole; spelled = t.spelled; run = t.run; begun = tt; refused = t.refused }
