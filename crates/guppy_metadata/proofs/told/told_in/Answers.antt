use Rattle.std.proofs.Common.{[], ◌∷◌, ◌++◌, Some, None, ap, arith}
use Rattle.json.specs.Find.{get_member}
use Rattle.json.specs.Value.{members_view}
use Rattle.guppy_metadata.proofs.Turns.{key_found, member_takes, no_member_read, member_read, object_of, object_told, object_with}
use Rattle.guppy_metadata.proofs.told.told_in.Goals as goal

pub loop-told-init : goal.loop-told-init
loop-told-init g c = (
  [],
  no_member_read 127 _,
  record {
    packages_are = tt;
    links_are = tt;
    others_are = λ name other. ap (λ rows. get_member name (members_view rows)) c.new.ensures.items;
  },
)

pub loop-told-smaller : goal.loop-told-smaller
loop-told-smaller g c =
    let more = c.in_ok-read_member.ensures in
    member_takes 127 c.loop-told.reader _ _ (Some c.in-Some.name.now) more.0 (key_found _ _ _ _ (Some c.in-Some.name) c.in_ok-name.ensures.value c.next_key.ensures.value c.in-Some.is) more.1

pub loop-told-preserved : goal.loop-told-preserved
loop-told-preserved g c =
    let l = c.loop-told in
    let were = l.invariant in
    let k = c.in-Some.name.now in
    let s = c.next_key.new.self in
    let key = key_found _ _ _ _ (Some c.in-Some.name) c.in_ok-name.ensures.value c.next_key.ensures.value c.in-Some.is in
    let more = c.in_ok-read_member.ensures in
    let rows = were.0 ++ (k, more.0) ∷ [] in (
      rows,
      member_read 127 _ were.0 l.reader s _ k more.0 were.1 key more.1,
      more.2 (object_of were.0) (object_of rows) (object_with were.0 k more.0) were.2,
    )

pub returns : goal.returns
returns g c =
    let l = c.loop-told in
    let were = l.invariant in
    let r = c.next_key.new.self in
    let closed = key_found _ _ _ _ None c.in_ok-name.ensures.value c.next_key.ensures.value c.in_default-2.is in (
      object_of were.0,
      object_told 128 _ c.next.new.self _ were.0 l.reader r (omega arith) c.in-Some-BeginObject.ensures.value c.in-Some-BeginObject.field-0-is were.1 closed,
      were.2,
    )
