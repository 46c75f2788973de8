use Rattle.std.proofs.Common.{ap}
use Rattle.std.specs.List.{filter_map}
use Rattle.guppy.specs.Listed.{id_of}
use Rattle.guppy.proofs.SetLists.{ids_first, ids_fewer}
use Rattle.guppy.proofs.set.roots.RootIdsIterator.next.Goals as goal

pub returns-in-Some-clause-steps : goal.returns-in-Some-clause-steps
returns-in-Some-clause-steps c = ids_first _ _ c.in-Some.package c.id.result.now c.in-Some.ensures.steps c.id.ensures

pub returns-in-Some-clause-goes : goal.returns-in-Some-clause-goes
returns-in-Some-clause-goes c = record {
  on = λ finite. (tt, tt, ids_fewer _ _ c.in-Some.package c.id.result.now c.in-Some.ensures.steps c.id.ensures);
  keeps = tt;
  rests = λ finite. tt;
}

pub returns-in-None-clause-steps : goal.returns-in-None-clause-steps
returns-in-None-clause-steps c = (ap (filter_map id_of) c.in-None.ensures.steps.0, ap (filter_map id_of) c.in-None.ensures.steps.1)
