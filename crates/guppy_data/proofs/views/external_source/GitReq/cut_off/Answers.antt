use Rattle.std.proofs.Common.{codes, arith, refl}
use Rattle.guppy_data.proofs.Sources.{IsCutAt-from_split, Lacks-from_find}
use Rattle.guppy_data.proofs.views.external_source.GitReq.cut_off.Goals as goal

pub returns-in-Some : goal.returns-in-Some
returns-in-Some c =
    IsCutAt-from_split (codes "?branch=") c.args.front.now c.in-Some.repository.now c.in-Some.branch.now (omega arith) c.in-Some.ensures.cases

pub returns-in-Some-split_once : goal.returns-in-Some-split_once
returns-in-Some-split_once c =
    (Lacks-from_find (codes "?branch=") c.args.front.now c.in_default.ensures.cases, IsCutAt-from_split (codes "?tag=") c.args.front.now c.in-Some-split_once.repository.now c.in-Some-split_once.tag.now (omega arith) c.in-Some-split_once.ensures.cases)

pub returns-in-Some-split_once-2 : goal.returns-in-Some-split_once-2
returns-in-Some-split_once-2 c =
    (Lacks-from_find (codes "?branch=") c.args.front.now c.in_default.ensures.cases, Lacks-from_find (codes "?tag=") c.args.front.now c.in_default-split_once.ensures.cases, IsCutAt-from_split (codes "?rev=") c.args.front.now c.in-Some-split_once-2.repository.now c.in-Some-split_once-2.rev.now (omega arith) c.in-Some-split_once-2.ensures.cases)

pub returns : goal.returns
returns c =
    (Lacks-from_find (codes "?branch=") c.args.front.now c.in_default.ensures.cases, Lacks-from_find (codes "?tag=") c.args.front.now c.in_default-split_once.ensures.cases, Lacks-from_find (codes "?rev=") c.args.front.now c.in_default-split_once-2.ensures.cases, refl)
