use Rattle.std.proofs.Common.{◌∷◌, length, ap, sym, subst, arith}
use Rattle.resp_session.specs.Fitting.{FitsEffect, FitsStore}
use Rattle.resp_session.specs.Stores.{effect_of}
use Rattle.resp_server.specs.Words.{words_left}
use Rattle.resp_server.proofs.ValueAnswers.{either_way, grown}
use Rattle.resp_server.proofs.database.Database.run.Goals as goal

pub run-requires : goal.run-requires
run-requires g c =
    let words = c.requires.words in
    let version = c.args.version.now in
    let limits = c.args.self.now.limits in
    let store = c.args.self.now.store in
    record {
      fits = subst (λ asked. FitsEffect limits (effect_of store version c.args.id asked)) (sym c.operation_of-operation.ensures)
          (c.effects_fit.ensures limits store version c.args.id (c.args.name.now ∷ words_left c.args.arguments) words.written c.are_in_range.ensures
          c.requires.stored c.requires.small words.spelled);
    }

pub returns-clause-within : goal.returns-clause-within
returns-clause-within g c =
    let words = c.requires.words in
    let version = c.args.version.now in
    let limits = c.args.self.now.limits in
    let store = c.args.self.now.store in
    let fits = subst (λ asked. FitsEffect limits (effect_of store version c.args.id asked)) (sym c.operation_of-operation.ensures)
    (c.effects_fit.ensures limits store version c.args.id (c.args.name.now ∷ words_left c.args.arguments) words.written c.are_in_range.ensures
    c.requires.stored c.requires.small words.spelled) in
    let ran = c.run.ensures.runs in
    record {
      short = either_way c.run.result ran.done ran.unchanged (λ done. grown c.args.out.now.items _ limits.total
          done.replied fits.reply.within_total) (λ same. let none = ap length same.same_out in omega (arith, none));
      stored = either_way c.run.result ran.done ran.unchanged (λ done. subst (FitsStore limits) (sym done.store_of) fits.store)
          (λ same. subst (FitsStore limits) (sym same.same_store) c.requires.stored);
      same_limits = c.run.ensures.same_limits;
    }
