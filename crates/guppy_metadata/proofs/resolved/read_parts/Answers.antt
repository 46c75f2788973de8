use Rattle.std.proofs.Common.{[], ◌∷◌, ◌++◌, Some, None, arith}
use Rattle.guppy_metadata.proofs.Turns.{key_found, member_takes, no_member_read, member_read, object_of, object_told, object_with}
use Rattle.guppy_metadata.proofs.resolved.read_parts.Goals as goal

pub loop-parts-init : goal.loop-parts-init
loop-parts-init c = (
  [],
  no_member_read 122 _,
  record {
    name_is = tt;
    id_is = tt;
    usages_are = tt;
  },
)

pub loop-parts-smaller : goal.loop-parts-smaller
loop-parts-smaller c =
    let more = c.in_ok-read_member.ensures in
    member_takes 122 c.loop-parts.reader _ _ (Some c.in-Some.name.now) more.0 (key_found _ _ _ _ (Some c.in-Some.name) c.in_ok-name.ensures.value c.next_key.ensures.value c.in-Some.is) more.1

pub loop-parts-preserved : goal.loop-parts-preserved
loop-parts-preserved c =
    let l = c.loop-parts in
    let were = l.invariant in
    let k = c.in-Some.name.now in
    let s = c.next_key.new.self in
    let key = key_found _ _ _ _ (Some c.in-Some.name) c.in_ok-name.ensures.value c.next_key.ensures.value c.in-Some.is in
    let more = c.in_ok-read_member.ensures in
    let rows = were.0 ++ (k, more.0) ∷ [] in (
      rows,
      member_read 122 _ were.0 l.reader s _ k more.0 were.1 key more.1,
      more.2 (object_of were.0) (object_of rows) (object_with were.0 k more.0) were.2,
    )

pub returns : goal.returns
returns c =
    let l = c.loop-parts in
    let were = l.invariant in
    let r = c.next_key.new.self in
    let closed = key_found _ _ _ _ None c.in_ok-name.ensures.value c.next_key.ensures.value c.in_default-2.is in (
      object_of were.0,
      object_told 123 _ c.next.new.self _ were.0 l.reader r (omega arith) c.in-Some-BeginObject.ensures.value c.in-Some-BeginObject.field-0-is were.1 closed,
      were.2,
    )
