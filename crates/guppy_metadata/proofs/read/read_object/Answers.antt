use Rattle.std.proofs.Common.{◌≡◌, ◌-◌, ◌∙◌, [], ◌∷◌, ◌++◌, map, Some, None, if◌then◌else◌, sym, ap, subst}
use Rattle.std.proofs.lemmas.List.{map_push}
use Rattle.json.specs.Json.{object}
use Rattle.json.proofs.Trees.{view-Object}
use Rattle.guppy_metadata.proofs.Objects.{seen, members_seen}
use Rattle.guppy_metadata.proofs.Turns.{MembersRead, of_ok, key_found, member_takes, no_member_read, member_read, object_told}
use Rattle.guppy_metadata.proofs.read.read_object.Goals as goal

pub loop-members-init : goal.loop-members-init
loop-members-init c = subst (λ ms. MembersRead (c.args.depth - 1) c.next.new.self (map seen ms) c.next.new.self) (sym c.emptied-members.ensures) (no_member_read (c.args.depth - 1) _)

pub loop-members-smaller : goal.loop-members-smaller
loop-members-smaller c =
    let more = of_ok _ _ c.read.result _ c.in_ok-member.ensures.value c.read.ensures.ok in
    member_takes (c.args.depth - 1) c.loop-members.reader _ _ (Some c.in-Some.name.now) _ (key_found _ _ _ _ (Some c.in-Some.name) c.in_ok-name.ensures.value c.next_key.ensures.value c.in-Some.is) more

pub loop-members-preserved : goal.loop-members-preserved
loop-members-preserved c =
    let l = c.loop-members in
    let d = c.args.depth - 1 in
    let s = c.next_key.new.self in
    let grown = l.members.items ++ (c.in-Some.name, c.in_ok-member.member) ∷ [] in
    let key = key_found _ _ _ _ (Some c.in-Some.name) c.in_ok-name.ensures.value c.next_key.ensures.value c.in-Some.is in
    let more = of_ok _ _ c.read.result _ c.in_ok-member.ensures.value c.read.ensures.ok in
    let pushed : c.push.new.self.items ≡ grown = c.push.ensures.items ∙ ap (λ well. if well then grown else l.members.items) (sym c.in_ok-ok.ensures.variant) in
    subst (λ rows. MembersRead d c.next.new.self rows c.read.new.reader) (sym (ap (map seen) pushed ∙ map_push seen l.members.items (c.in-Some.name, c.in_ok-member.member)))
    (member_read d _ _ l.reader s _ _ _ l.invariant key more)

pub returns : goal.returns
returns c =
    let l = c.loop-members in
    let r = c.next_key.new.self in
    let closed = key_found _ _ _ _ None c.in_ok-name.ensures.value c.next_key.ensures.value c.in_default-2.is in
    (object_told c.args.depth _ c.next.new.self _ (map seen l.members.items) l.reader r c.requires c.in-Some-BeginObject.ensures.value c.in-Some-BeginObject.field-0-is l.invariant closed
    ∙ ap (λ d. Some (d, r)) (ap object (members_seen l.members.items) ∙ sym (view-Object l.members)))
