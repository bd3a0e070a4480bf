use Rattle.resp_commands.specs.declared.command.Search.TheVariants as search
use Rattle.resp_commands.proofs.FurtherKeys.{by_search, two_kinds}
use Rattle.resp_commands.proofs.Migrated as migrated
use Rattle.resp_commands.proofs.Sorted as sorted
use Rattle.resp_commands.proofs.keys.key_places.Goals as goal

pub returns-in-Sort-clause-keys : goal.returns-in-Sort-clause-keys
returns-in-Sort-clause-keys g c = λ place.
    let keys = c.args.keys.now in
    let words = g.A.Arguments.words c.args.arguments in
    let start = sorted.same_start keys.start c.saturating_sub-start.result words place c.saturating_sub-start.ensures in
    two_kinds keys words c.fixed_places-fixed.result c.sort_place.result c.left-count.result place c.left-count.ensures (c.fixed_places-fixed.ensures place)
    (by_search keys search.Sort words c.sort_place.result place c.in-Sort.is
    (λ here. start.0 ((c.sort_place.ensures place).0 here), λ key. (c.sort_place.ensures place).1 (start.1 key)))

pub returns-in-Migrate-clause-keys : goal.returns-in-Migrate-clause-keys
returns-in-Migrate-clause-keys g c = λ place.
    let keys = c.args.keys.now in
    let words = g.A.Arguments.words c.args.arguments in
    let start = migrated.same_start keys.start c.saturating_sub-start.result words place c.saturating_sub-start.ensures in
    two_kinds keys words c.fixed_places-fixed.result c.migrate_places.result c.left-count.result place c.left-count.ensures (c.fixed_places-fixed.ensures place)
    (by_search keys search.Migrate words c.migrate_places.result place c.in-Migrate.is
    (λ here. start.0 ((c.migrate_places.ensures place).0 here), λ key. (c.migrate_places.ensures place).1 (start.1 key)))
