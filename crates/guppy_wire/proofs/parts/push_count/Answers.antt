use Rattle.std.proofs.Common.{◌≡◌, ◌∙◌, ◌++◌, Result, Ok, Err, OnOk, string_bytes, sym, ap, subst, append_assoc, codes, arith}
use Rattle.std.proofs.lemmas.Fmt.{decimal_digit}
use Rattle.std.specs.Bool.{if◌then◌else◌}
use Rattle.std.specs.Fmt.{decimal}
use Rattle.std.specs.Result.{is_ok}
use Rattle.guppy_wire.proofs.parts.push_count.Goals as goal

-- where it went well it is as it was to be
where_ok : {T E X : Type 0} (r : Result T E) (x made old : X) → x ≡ (if is_ok r then made else old) → OnOk r (x ≡ made)
where_ok (Ok y) x made old is = is
where_ok (Err e) x made old is = tt

pub returns-then-count-eq0 : goal.returns-then-count-eq0
returns-then-count-eq0 c =
    let old = string_bytes c.args.text.now in
    let nothing : decimal c.args.count ++ codes ";" ≡ codes "0;" = ap (λ count. decimal count ++ codes ";") c.if-count-eq0.true ∙ ap (λ count. count ++ codes ";") (decimal_digit 0 (omega arith)) in
    let told : OnOk c.push_str.result (string_bytes c.push_str.new.self ≡ old ++ codes "0;") = where_ok c.push_str.result _ _ _ c.push_str.ensures.bytes in
    rw append_assoc (subst (λ text. OnOk c.push_str.result (string_bytes c.push_str.new.self ≡ old ++ text)) (sym nothing) told)
