use Rattle.std.proofs.Common.{[], ◌∷◌, ◌++◌, Some, None, refl, sym, arith}
use Rattle.std.proofs.lemmas.List.{append-nil}
use Rattle.guppy_metadata.specs.Buffer.{links_in}
use Rattle.guppy_metadata.proofs.Turns.{key_found, member_takes, no_member_read, member_read, object_of, object_told, object_with}
use Rattle.guppy_metadata.proofs.node.read_members.Goals as goal

pub loop-name-init : goal.loop-name-init
loop-name-init c = (
  [],
  no_member_read 124 _,
  [],
  sym (append-nil (links_in c.args.links.now)),
  record {
    from_is = tt;
    links_are = refl;
  },
)

pub loop-name-smaller : goal.loop-name-smaller
loop-name-smaller c =
    let more = c.in_ok-read_member.ensures in
    member_takes 124 c.loop-name.reader _ _ (Some c.in-Some.name.now) more.0 (key_found _ _ _ _ (Some c.in-Some.name) c.in_ok-name.ensures.value c.next_key.ensures.value c.in-Some.is) more.1

pub loop-name-preserved : goal.loop-name-preserved
loop-name-preserved c =
    let l = c.loop-name in
    let were = l.invariant in
    let k = c.in-Some.name.now in
    let s = c.next_key.new.self in
    let key = key_found _ _ _ _ (Some c.in-Some.name) c.in_ok-name.ensures.value c.next_key.ensures.value c.in-Some.is in
    let more = c.in_ok-read_member.ensures in
    let rows = were.0 ++ (k, more.0) ∷ [] in
    let added = more.2 (object_of were.0) (object_of rows) (links_in c.args.links.now) were.2 (object_with were.0 k more.0) were.3 were.4 in (
      rows,
      member_read 124 _ were.0 l.reader s _ k more.0 were.1 key more.1,
      added.0,
      added.1,
      added.2,
    )

pub returns : goal.returns
returns c =
    let l = c.loop-name in
    let were = l.invariant in
    let r = c.next_key.new.self in
    let closed = key_found _ _ _ _ None c.in_ok-name.ensures.value c.next_key.ensures.value c.in_default-2.is in (
      object_of were.0,
      object_told 125 _ c.next.new.self _ were.0 l.reader r (omega arith) c.in-Some-BeginObject.ensures.value c.in-Some-BeginObject.field-0-is were.1 closed,
      were.2,
      were.3,
      were.4,
    )
