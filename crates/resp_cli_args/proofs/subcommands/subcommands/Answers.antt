use Rattle.std.proofs.Common.{refl}
use Rattle.resp_cli_args.proofs.subcommands.subcommands.Goals as goal

pub returns : goal.returns
returns c = (
  c.versions-versions.ensures.0,
  c.versions-versions.ensures.1,
  rw (
    c.versions-versions.ensures.2,
    c.limits-limits.ensures,
    c.showing.ensures,
    c.reading.ensures,
    c.script.ensures,
    c.serving.ensures,
    c.watching.ensures,
    c.printing.ensures,
    c.sharing.ensures,
    c.replying.ensures,
    c.asking.ensures,
    c.words.ensures,
  )
      refl,
)
