-- A call goes to the value in the box, and leaves its table as it was.
use Rattle.std.proofs.Common.{◌≡◌, ℕ, Bool, refl, sym, subst}
use mathlib.Core.List.{mem-append_right}
use Rattle.guppy.specs.Views.{LinkData, link_data}
use Rattle.guppy.proofs.query.visitor.BoxDynPackageLinkVisitorDropPackageLinkVisitor.visit_link.Goals as goal

pub visit_link-requires : goal.visit_link-requires
visit_link-requires g c =
    let e = c.deref_box_mut-1.ensures.value.1 in
    let ready = subst (λ (z : (i : g.dyn-1.0.I) × (g.dyn-1.0.entry i).0.Denot). (g.dyn-1.0.entry z.0).1.can_visit z.1 c.args.cx.now (link_data c.args.link)) (sym e) c.requires in
    λ k. (refl, λ within. (tt, (λ a m. within a (mem-append_right k.0 m), ready)))

pub returns-clause-visits : goal.returns-clause-visits
returns-clause-visits g c =
    let e = c.deref_box_mut-1.ensures.value.1 in
    subst (λ (z : (i : g.dyn-1.0.I) × (g.dyn-1.0.entry i).0.Denot).
    (w : (g.dyn-1.0.entry z.0).0.Denot) → (g.dyn-1.0.entry z.0).1.visits z.1 c.args.cx.now (link_data c.args.link) c.visit_link.result w
    → (x : (g.dyn-1.0.entry c.args.self.now.vtable).0.Denot)
    × (g.dyn-1.0.entry c.args.self.now.vtable).1.visits c.args.self.now.value c.args.cx.now (link_data c.args.link) c.visit_link.result x
    × ◌≡◌ {A = Rattle.std.specs.declared.dyn_box.DynBox.DynBox g.dyn-1.0.I Rattle.std.proofs.Common.Global (λ x'. ((Rattle.guppy.specs.contracts.query.visitor.BoxDynPackageLinkVisitorDropPackageLinkVisitor.dyn-1.Any g.dyn-1).3.1.0 x').0.Denot)}
    (record c.args.self.now { vtable = z.0; value = w }) (record c.args.self.now { value = x }))
    (sym e) (λ w v. (w, v, refl)) c.visit_link.new.self c.visit_link.ensures.0

pub returns-clause-others : goal.returns-clause-others
returns-clause-others g c =
    let e = c.deref_box_mut-1.ensures.value.1 in
    subst (λ (z : (i : g.dyn-1.0.I) × (g.dyn-1.0.entry i).0.Denot).
    (w : (g.dyn-1.0.entry z.0).0.Denot)
    → ((l : LinkData) → (l ≡ link_data c.args.link → ⊥) → (g.dyn-1.0.entry z.0).1.can_visit z.1 c.args.cx.now l → (g.dyn-1.0.entry z.0).1.can_visit w c.args.cx.now l)
    → (l : LinkData) → (l ≡ link_data c.args.link → ⊥) → (g.dyn-1.0.entry c.args.self.now.vtable).1.can_visit c.args.self.now.value c.args.cx.now l → (g.dyn-1.0.entry z.0).1.can_visit w c.args.cx.now l)
    (sym e) (λ w others. others) c.visit_link.new.self c.visit_link.ensures.1.0
