-- The versions that `--proto` accepts.
use Rattle.std.proofs.Common.{◌∙◌, ◌≡◌, ap, List, [], ◌∷◌, map, refl}
use Rattle.std.specs.Prelude.{codes}
use Rattle.std.specs.Borrow.{Bor}
use Rattle.std.specs.List.{list_any}
use Rattle.std.specs.Str.{bytes_eq}
use Rattle.clap.specs.Words.{Text}
use Rattle.clap.specs.declared.builder.value_parser.ValueParser.TheVariants as vp
use Rattle.clap.proofs.WalkLemmas.{list_any-map}
use Rattle.resp_cli_args.specs.Program.{TakesVersions}

pub names_take_versions : (names : Bor (List (Bor Text))) → map (λ s. s.now) names.now ≡ codes "2" ∷ codes "3" ∷ [] →
    TakesVersions (vp.Names names)
names_take_versions names are = record {
  two_and_three = λ text. list_any-map (λ word. bytes_eq word text) (λ s. s.now) names.now ∙
      ap (list_any (λ word. bytes_eq word text)) are;
  as_written = refl;
}
