use Rattle.std.proofs.Common.{◌≡◌, map, take, drop}
use Rattle.std.specs.List.{AllZip}
use Rattle.guppy_publish.specs.Needs.{pair_texts, IsNeedOf}
use Rattle.guppy_publish.proofs.needs.make_all_firm.Given as goal

abbrev pub invariant-loop-link : goal.invariant-loop-link
invariant-loop-link l = record {
  done : AllZip (IsNeedOf (map pair_texts l.declared)) (take l.link-index l.initial.links) (take l.link-index l.links);
  rest : drop l.link-index l.links ≡ drop l.link-index l.initial.links;
}
