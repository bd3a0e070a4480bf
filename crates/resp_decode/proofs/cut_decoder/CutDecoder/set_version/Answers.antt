use Rattle.resp_decode.specs.Keeping.{HasKept, KeepsNothing}
use Rattle.resp_decode.proofs.Feeding.{reads_on_in_version, takes_nothing_of_version}
use Rattle.resp_decode.proofs.cut_decoder.CutDecoder.set_version.Goals as goal

pub returns-clause-nothing_taken : goal.returns-clause-nothing_taken
returns-clause-nothing_taken c = λ front w.
    takes_nothing_of_version (HasKept c.args.self.now.kept c.args.self.now.kept.shown) c.args.self.now.scanner
    c.set_version.new.self front c.set_version.result w
    (c.set_version.ensures.only_between_values front w.given w.reads).0 (c.set_version.ensures.nothing_read front w.given w.reads)

pub invariant_of-self : goal.invariant_of-self
invariant_of-self c =
    let set = c.set_version.ensures in
    record {
      reading = reads_on_in_version (HasKept c.args.self.now.kept c.args.self.now.kept.shown)
          (KeepsNothing c.args.self.now.kept) c.args.self.now.scanner c.set_version.new.self
          c.set_version.result c.args.self.now.reading set.only_between_values set.nothing_read set.unchanged_where_busy
          set.never_after_a_fault;
    }
