use Rattle.std.proofs.Common.{◌∙◌, ap, map, refl}
use Rattle.std.proofs.lemmas.List.{map-append}
use Rattle.resp_value.specs.Values.{datum_of}
use Rattle.resp_value.specs.declared.value.Members.{Members}
use Rattle.resp_value.specs.declared.value.Value.TheVariants as value
use Rattle.resp_wire.proofs.end.End.keep.Goals as goal
use Rattle.resp_wire.proofs.worlds.Kept.{kept}

pub returns-clause-kept : goal.returns-clause-kept
returns-clause-kept c = record {
  client = refl;
  asked = refl;
  replies = kept c.args.self.now.replies.items c.add_values.new.values.items c.args.heard.replies.items c.in-Ok.ensures;
  pushes = ap (map (λ (items : Members). datum_of (value.Push items))) c.in-Ok-append.ensures.items ∙
      map-append (λ (items : Members). datum_of (value.Push items)) c.args.self.now.pushes.items c.args.heard.pushes.items;
  dropped = refl;
}
