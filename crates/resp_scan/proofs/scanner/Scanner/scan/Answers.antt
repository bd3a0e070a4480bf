use Rattle.resp_scan.proofs.CallClauses.NoValue.{uses_bytes}
use Rattle.resp_scan.proofs.scanner.Scanner.scan.Goals as goal

pub returns-clause-fault_is_final : goal.returns-clause-fault_is_final
returns-clause-fault_is_final g c = rw (← c.self.view_is) (λ fault f. c.scan.ensures.fault_is_final fault f)

pub returns-clause-value_whole : goal.returns-clause-value_whole
returns-clause-value_whole g c = rw (← c.self.view_is) c.scan.ensures.value_whole

pub returns-clause-uses_bytes : goal.returns-clause-uses_bytes
returns-clause-uses_bytes g c = rw (← c.self.view_is) (λ since front given w had none.
    uses_bytes _ _ (g.L.Listener.has_heard c.scan.new.listener since) front c.args.piece.now c.scan.result none
    (c.scan.ensures.value_whole since front given w had) c.scan.ensures.whole_piece)
