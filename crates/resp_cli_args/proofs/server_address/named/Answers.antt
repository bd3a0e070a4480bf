use Rattle.std.proofs.Common.{Some, arith, inr, refl, sym, true≢false}
use Rattle.std.proofs.lemmas.Str.Pattern.{split_parts}
use Rattle.resp_cli_args.proofs.HostLemmas.{no_host_alone, no_host_split, port_behind}
use Rattle.resp_cli_args.proofs.server_address.named.Goals as goal

pub returns-in_default-clause-none : goal.returns-in_default-clause-none
returns-in_default-clause-none c = no_host_alone c.args.text.now c.in_default.ensures.cases
    (λ host. true≢false (sym (c.if-is_host.ensures.1 host)))

pub returns-then-not-is_host-clause-none : goal.returns-then-not-is_host-clause-none
returns-then-not-is_host-clause-none c =
    no_host_split c.args.text.now (c.in-Some.host, c.in-Some.port) c.in-Some.ensures.cases
    (λ host port has. true≢false (sym (c.if-not-is_host.ensures.1 host)))

pub returns-in-None-clause-none : goal.returns-in-None-clause-none
returns-in-None-clause-none c =
    no_host_split c.args.text.now (c.in-Some.host, c.in-Some.port) c.in-Some.ensures.cases
    (λ host port has. c.in-None.ensures.none port has)

pub returns-in-Some-port_after-clause-some : goal.returns-in-Some-port_after-clause-some
returns-in-Some-port_after-clause-some c =
    let e = (split_parts 58 c.args.text.now (Some (c.in-Some.host, c.in-Some.port)) c.in-Some.ensures.cases (omega arith)).0 in
    (c.if-not-is_host.ensures.0 refl, inr (port_behind _ _ _ _ e c.in-Some-port_after.ensures.some))
