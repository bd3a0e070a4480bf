use Rattle.std.proofs.Common.{◌≡◌, ◌++◌, ℕ, List, length}
use Rattle.resp_paint.specs.Paints.{Paints}
use Rattle.resp_paint.specs.Waiting.{Waits}
use Rattle.resp_paint.proofs.painted.Painted.paint.Given as goal

abbrev pub invariant-loop-byte : goal.invariant-loop-byte
invariant-loop-byte g l = (front : List ℕ) × (l.text ≡ front ++ l.rest) ×
    Paints (g.W.Sink.written l.initial.self.inner) (g.W.Sink.written l.self.inner) l.initial.self.held.items front l.self.held.items ×
    (l.self.calls ≡ l.initial.self.calls) × (l.self.failures ≡ l.initial.self.failures) ×
    (l.self.painter.style ≡ l.initial.self.painter.style) ×
    (Waits l.initial.self.painter.style l.initial.self.held.items → Waits l.initial.self.painter.style l.self.held.items)

abbrev pub decreases-loop-byte : goal.decreases-loop-byte
decreases-loop-byte g l = length l.rest
