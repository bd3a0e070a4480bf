use Rattle.std.proofs.Common.{length, map, sym, ap, subst, arith}
use Rattle.resp_value.specs.Data.{data_of_list}
use Rattle.resp_value.specs.Data as d
use Rattle.resp_value.specs.Trees.{texts}
use Rattle.resp_value.specs.Canonical.{canonical_trees}
use Rattle.resp_value.specs.Values.{datum_of}
use Rattle.resp_value.specs.declared.version.Version.TheVariants.{Three}
use Rattle.resp_encode.specs.Walks.Writings.{Fills}
use Rattle.resp_encode.proofs.Counts.{count-map}
use Rattle.resp_encode.proofs.Texts.{aggregate_text, length-head}
use Rattle.resp_encode.proofs.values.write_push.Goals as goal

pub write_group-requires : goal.write_group-requires
write_group-requires c =
    let items = c.args.items.now in
    let xs = data_of_list (map datum_of items) in
    omega (
      arith,
      c.requires,
      ap length (aggregate_text Three d.Push xs (length items) (count-map datum_of items)),
      length-head 62 (length items) (texts (canonical_trees Three xs)),
    )

pub returns : goal.returns
returns c =
    let items = c.args.items.now in
    subst (Fills c.args.out.now c.write_group.new.out)
    (sym (aggregate_text Three d.Push (data_of_list (map datum_of items)) (length items)
    (count-map datum_of items))) c.write_group.ensures
