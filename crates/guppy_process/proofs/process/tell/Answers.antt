use Rattle.std.proofs.Common.{◌≡◌, ◌∙◌, ℕ, Bool, true, List, ◌++◌, codes, sym, rules, Some, None}
use Rattle.std.specs.Prelude.{Option, IfSome, Result, Ok, Err, OnOk}
use Rattle.std.specs.Fmt.{◌++?◌, WritesInCalls}
use Rattle.std.specs.Result.{is_ok}
use Rattle.std.specs.Io.KnownBytes.{Appends}
use Rattle.std.proofs.KnownBytes.{Appends-of_writes}
use Rattle.guppy_process.proofs.process.tell.Goals as goal

-- what holds after an Ok holds, where there is one
where_ok : {A B : Type 0} (r : Result A B) (P : Type 0) → is_ok r ≡ true → OnOk r P → P
where_ok (Ok a) P e h = h
where_ok (Err b) P e h = absurd (cc)

-- the bytes at the end, under another name
ends_at : {E : Type 0} (written : E → Option (List ℕ)) (old : Option (List ℕ)) (bytes : List ℕ) (t u : E) → Appends old (written t) bytes → u ≡ t → Appends old (written u) bytes
ends_at written old bytes t u h e = rw e h

-- what is written round a text, where it is known
round_text : {A B : Type 0} (r : Result A B) (ended : Bool) (Wrote Q : List ℕ → Type 0) (front back : List ℕ) (text : Option (List ℕ)) → ended ≡ is_ok r
    → ((told : List ℕ) → Wrote (front ++ (told ++ back)) → Q told) → OnOk r (IfSome (Some front ++? (text ++? Some back)) Wrote) → IfSome text (λ told. ended ≡ true → Q told)
round_text r ended Wrote Q front back None same along wrote = tt
round_text r ended Wrote Q front back (Some told) same along wrote = λ ok. along told (where_ok r _ (sym same ∙ ok) wrote)

pub returns : goal.returns
returns g c = round_text c.writeln-told.result c.is_ok.result
    (λ bytes. WritesInCalls _ _ bytes _)
    _ (codes "error: ") (codes "\n") (g.F.Display.output c.args.fault.now) c.is_ok.ensures.value
    (λ told wrote.
    let bytes = Appends-of_writes (λ l. l.sink.ghost_name) (λ l. g.E.Sink.written l.sink.now) _ _ _ wrote in
    ends_at g.E.Sink.written _ _ c.writeln-told.new.self.sink.now _ bytes.1 (search rules))
    c.writeln-told.ensures.writes
