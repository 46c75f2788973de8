use Rattle.std.proofs.Common.{◌≡◌, ◌-◌, ◌∙◌, [], ◌∷◌, ◌++◌, Some, None, length, refl, sym, arith}
use Rattle.std.proofs.lemmas.List.{length-map}
use Rattle.json.specs.Json.{no_members}
use Rattle.guppy_metadata.proofs.AskedValues.{none_told}
use Rattle.guppy_metadata.proofs.Turns.{key_found, member_takes, no_member_read, member_read, members_onto, object_of, object_told, object_with}
use Rattle.guppy_metadata.proofs.asked.read_asked.Goals as goal

pub loop-name-init : goal.loop-name-init
loop-name-init c = ([], no_member_read (c.args.depth - 1) _, none_told _ _ (let as_many : length c.clear.new.values ≡ length c.args.names.now = omega (arith, c.requires.as_many) in as_many ∙ sym (length-map c.args.names.now (λ n. n.now))) c.clear.ensures)

pub loop-name-smaller : goal.loop-name-smaller
loop-name-smaller c =
    let more = c.in_ok-likely.ensures in
    member_takes (c.args.depth - 1) c.loop-name.reader _ _ (Some c.in-Some.name.now) more.0 (key_found _ _ _ _ (Some c.in-Some.name) c.in_ok-name.ensures.value c.next_key.ensures.value c.in-Some.is) more.1

pub loop-name-preserved : goal.loop-name-preserved
loop-name-preserved c =
    let l = c.loop-name in
    let were = l.invariant in
    let d = c.args.depth - 1 in
    let k = c.in-Some.name.now in
    let s = c.next_key.new.self in
    let key = key_found _ _ _ _ (Some c.in-Some.name) c.in_ok-name.ensures.value c.next_key.ensures.value c.in-Some.is in
    let more = c.in_ok-likely.ensures in
    let rows = were.0 ++ (k, more.0) ∷ [] in (
      rows,
      member_read d _ were.0 l.reader s _ k more.0 were.1 key more.1,
      more.2 (object_of were.0) (object_of rows) (object_with were.0 k more.0) were.2,
    )

pub returns : goal.returns
returns c =
    let l = c.loop-name in
    let were = l.invariant in
    let r = c.next_key.new.self in
    let closed = key_found _ _ _ _ None c.in_ok-name.ensures.value c.next_key.ensures.value c.in_default-2.is in (
      object_of were.0,
      object_told c.args.depth _ c.next.new.self _ were.0 l.reader r c.requires.deep c.in-Some-BeginObject.ensures.value c.in-Some-BeginObject.field-0-is were.1 closed,
      (members_onto were.0 no_members, refl),
      were.2,
    )
