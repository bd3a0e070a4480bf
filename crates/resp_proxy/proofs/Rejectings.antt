-- Bytes of a server that bring no error.
use Rattle.std.proofs.Common.{◌≡◌, ◌∙◌, ℕ, List, ◌++◌, take, drop, ap, append_assoc, refl, sym}
use Rattle.std.proofs.lemmas.List.{take-append-drop}
use Rattle.resp_frames.proofs.WholeTexts.{rejects_in_text}
use Rattle.resp_frames.specs.declared.error.FrameError.{FrameError}
use Rattle.resp_frames.specs.declared.error.FrameError.TheVariants as frame
use Rattle.resp_frames.specs.declared.frame.Frame.{Frame}
use Rattle.resp_frames.specs.Framing.{IsFrame, OnFault, RejectsByte}
use Rattle.resp_frames.specs.Texts.{text_of, used_of}
use Rattle.resp_board.specs.declared.board.Board.{Board}
use Rattle.resp_proxy.specs.declared.error.ServerError.{ServerError}
use Rattle.resp_proxy.specs.declared.error.ServerError.TheVariants as error
use Rattle.resp_proxy.specs.Rejecting.{BeginsSpelling, IsNoReply, RejectsReply}
use Rattle.resp_value.specs.Rules.{Rules}

-- a byte was rejected, or memory ran out
pub frame_rejected : (rules : Rules) (line : ℕ) (m : Board) (front piece : List ℕ) (e : FrameError) → OnFault e (RejectsByte rules front piece) →
    (e ≡ frame.NotACommand → ⊥) → RejectsReply rules line m (front ++ piece) (error.Frame e)
frame_rejected rules line m front piece (frame.Fault fault) rejects other = rejects_in_text rules front piece fault rejects
frame_rejected rules line m front piece frame.NotACommand rejects other = absurd (other refl)
frame_rejected rules line m front piece frame.OutOfMemory rejects other = tt

pub begins_value : (rules : Rules) (front piece : List ℕ) (found : Frame) (P : List ℕ → Type 0) → IsFrame rules front piece found → P (text_of found) →
    BeginsSpelling rules (front ++ piece) P
begins_value rules front piece found P f holds =
    let used = used_of found in
    record {
      value = text_of found;
      rest = drop used piece;
      whole = ap (λ t. front ++ t) (sym (take-append-drop used piece)) ∙ sym (append_assoc front (take used piece) (drop used piece)) ∙
          ap (λ t. t ++ drop used piece) (sym f.text);
      spelled = f.spelled;
      holds = holds;
    }

-- a value is no reply, or memory ran out
pub value_rejected : (rules : Rules) (line : ℕ) (m : Board) (front piece : List ℕ) (found : Frame) (e : ServerError) → IsFrame rules front piece found →
    IsNoReply line m e (text_of found) → RejectsReply rules line m (front ++ piece) e
value_rejected rules line m front piece found (error.Frame e) f none = absurd none
value_rejected rules line m front piece found error.Push f none = begins_value rules front piece found (IsNoReply line m error.Push) f none
value_rejected rules line m front piece found error.Unasked f none =
    begins_value rules front piece found (IsNoReply line m error.Unasked) f none
value_rejected rules line m front piece found error.OutOfMemory f none = tt
value_rejected rules line m front piece found error.OutOfStep f none = absurd none
