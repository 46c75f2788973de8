-- Lists and objects that are read a turn at a time.
use Rattle.std.proofs.Common.{◌≡◌, ◌∙◌, ℕ, zero, suc, ◌-◌, ◌<◌, ◌≤◌, Bool, true, false, cond, List, [], ◌∷◌, ◌++◌, length, Option, Some, None, Result, Ok, Err, MatchResult, IfSome, refl, sym, ap, subst, arith}
use Rattle.std.specs.Prelude.{option_map}
use Rattle.std.specs.Borrow.{Bor}
use Rattle.std.specs.Result.{result_ok}
use Rattle.std.specs.Str.{bytes_eq}
use Rattle.json.specs.Token.{Token}
use Rattle.json.specs.Json.{Json, string, array, object, Items, no_items, item, Members, no_members, member, parse_map, after_end_array, read_key, items, members, value}
use Rattle.json.specs.Find.{later_or, get_member}
use Rattle.json.specs.Reads.{token_of}
use Rattle.json.specs.Value.{items_of}
use Rattle.json.specs.declared.reader.Invalid.{Invalid}
use Rattle.json.specs.declared.token.Token.{Token as Lexeme}
use Rattle.json.specs.declared.token.Token.TheVariants.{BeginArray, BeginObject}
use Rattle.json.proofs.Grammar.{left, skip_value-shorter, value-begin_array, value-begin_object, read_key-shorter, items_end, items_more, members_end, members_more}
use Rattle.json.proofs.Trees.{none_before}
use Rattle.guppy_metadata.specs.Told.{IsWith}

-- what holds of what is well holds of this, which is that
pub of_ok : {T E : Type 0} (P : T → Type 0) (Q : E → Type 0) (r : Result T E) (x : T) → Some x ≡ result_ok r → MatchResult r P Q → P x
of_ok P Q (Ok y) x is holds = subst (λ o. IfSome o P) (sym is) holds
of_ok P Q (Err e) x is holds = absurd (subst (λ o. IfSome o (λ _. ⊥)) (sym is) tt)

-- what holds of what is well holds of what is there, which is that
pub if_ok : {T E : Type 0} (P R : T → Type 0) (Q : E → Type 0) (r : Result T E) (o : Option T) → o ≡ result_ok r → ((x : T) → P x → R x) → MatchResult r P Q → IfSome o R
if_ok P R Q (Ok y) o is implies holds = subst (λ o. IfSome o R) (sym is) (implies y holds)
if_ok P R Q (Err e) o is implies holds = subst (λ o. IfSome o R) (sym is) tt

-- a value takes at least one token
pub value_takes : (depth : ℕ) (ts r : List Token) (j : Json) → value depth ts ≡ Some (j, r) → length r < length ts
value_takes depth ts r j is = skip_value-shorter depth ts r (ap left is)

-- a text that comes next
pub text_read : (depth : ℕ) (text : List ℕ) (ts : List Token) → value depth (Token.string text ∷ ts) ≡ Some (string text, ts)
unfolding value
text_read zero text ts = refl
text_read (suc depth) text ts = refl

abbrev pub items_onto : List Json → Items → Items
items_onto [] rest = rest
items_onto (j ∷ js) rest = item j (items_onto js rest)

abbrev pub members_onto : List (List ℕ × Json) → Members → Members
members_onto [] rest = rest
members_onto (row ∷ rows) rest = member row.0 row.1 (members_onto rows rest)

-- the object of these members
abbrev pub object_of : List (List ℕ × Json) → Json
object_of rows = object (members_onto rows no_members)

all_items : (js : List Json) → items_onto js no_items ≡ items_of js
all_items [] = refl
all_items (j ∷ js) = ap (item j) (all_items js)

item_behind : (js : List Json) (j : Json) (rest : Items) → items_onto js (item j rest) ≡ items_onto (js ++ j ∷ []) rest
item_behind [] j rest = refl
item_behind (i ∷ js) j rest = ap (item i) (item_behind js j rest)

member_behind : (rows : List (List ℕ × Json)) (k : List ℕ) (j : Json) (rest : Members) → members_onto rows (member k j rest) ≡ members_onto (rows ++ (k, j) ∷ []) rest
member_behind [] k j rest = refl
member_behind (row ∷ rows) k j rest = ap (member row.0 row.1) (member_behind rows k j rest)

one_more_item : (js : List Json) (j : Json) (r : Option (Items × List Token)) → parse_map (items_onto js) (parse_map (item j) r) ≡ parse_map (items_onto (js ++ j ∷ [])) r
one_more_item js j None = refl
one_more_item js j (Some p) = ap (λ is. Some (is, p.1)) (item_behind js j p.0)

one_more_member : (rows : List (List ℕ × Json)) (k : List ℕ) (j : Json) (r : Option (Members × List Token))
    → parse_map (members_onto rows) (parse_map (member k j) r) ≡ parse_map (members_onto (rows ++ (k, j) ∷ [])) r
one_more_member rows k j None = refl
one_more_member rows k j (Some p) = ap (λ ms. Some (ms, p.1)) (member_behind rows k j p.0)

-- of the list that begins at `start` these items were read, and the tokens `now` follow
pub record ItemsRead (depth : ℕ) (start : List Token) (js : List Json) (now : List Token) : Type 0 where
  pub turns : ℕ
  pub enough : length now ≤ turns
  pub are : items (value depth) (length start) start ≡ parse_map (items_onto js) (items (value depth) turns now)

-- of the object that begins at `start` these members were read, and the tokens `now` follow
pub record MembersRead (depth : ℕ) (start : List Token) (rows : List (List ℕ × Json)) (now : List Token) : Type 0 where
  pub turns : ℕ
  pub enough : length now ≤ turns
  pub are : members (value depth) (length start) start ≡ parse_map (members_onto rows) (members (value depth) turns now)

pub no_item_read : (depth : ℕ) (start : List Token) → ItemsRead depth start [] start
no_item_read depth start = record {
  turns = length start;
  enough = omega arith;
  are = none_before _;
}

pub no_member_read : (depth : ℕ) (start : List Token) → MembersRead depth start [] start
no_member_read depth start = record {
  turns = length start;
  enough = omega arith;
  are = none_before _;
}

pub item_read : (depth : ℕ) (start : List Token) (js : List Json) (ts r : List Token) (j : Json) → ItemsRead depth start js ts → after_end_array ts ≡ None → value depth ts ≡ Some (j, r)
    → ItemsRead depth start (js ++ j ∷ []) r
item_read depth start js ts r j read more is =
    let n = read.turns in
    let enough : length ts ≤ n = read.enough in
    let less = value_takes depth ts r j is in record {
      turns = n - 1;
      enough = omega arith;
      are = read.are ∙ (ap (parse_map (items_onto js)) (items_more (value depth) n ts r j (omega arith) more is) ∙ one_more_item js j _);
    }

pub member_read : (depth : ℕ) (start : List Token) (rows : List (List ℕ × Json)) (ts s r : List Token) (k : List ℕ) (j : Json) → MembersRead depth start rows ts → read_key ts ≡ Some (Some k, s)
    → value depth s ≡ Some (j, r) → MembersRead depth start (rows ++ (k, j) ∷ []) r
member_read depth start rows ts s r k j read key is =
    let n = read.turns in
    let enough : length ts ≤ n = read.enough in
    let less = value_takes depth s r j is in
    let lesser = read_key-shorter ts (Some k) s key in record {
      turns = n - 1;
      enough = omega arith;
      are = read.are ∙ (ap (parse_map (members_onto rows)) (members_more (value depth) n k ts s r j (omega arith) key is) ∙ one_more_member rows k j _);
    }

-- the whole list, behind its bracket
pub list_read : (depth : ℕ) (start : List Token) (js : List Json) (ts r : List Token) → 0 < depth → ItemsRead (depth - 1) start js ts → after_end_array ts ≡ Some r
    → value depth (Token.begin_array ∷ start) ≡ Some (array (items_of js), r)
list_read depth start js ts r deep read closed =
    value-begin_array depth start deep ∙ (ap (parse_map array) (read.are ∙ ap (parse_map (items_onto js)) (items_end (value (depth - 1)) read.turns ts r read.enough closed))
    ∙ ap (λ is. Some (array is, r)) (all_items js))

-- the whole object, behind its brace
pub object_read : (depth : ℕ) (start : List Token) (rows : List (List ℕ × Json)) (ts r : List Token) → 0 < depth → MembersRead (depth - 1) start rows ts → read_key ts ≡ Some (None, r)
    → value depth (Token.begin_object ∷ start) ≡ Some (object_of rows, r)
object_read depth start rows ts r deep read closed =
    value-begin_object depth start deep ∙ ap (parse_map object) (read.are ∙ ap (parse_map (members_onto rows)) (members_end (value (depth - 1)) read.turns ts r read.enough closed))

latest : (b : Bool) (j : Json) (o p : Option Json) → later_or (cond b (Some j) o) p ≡ cond b (Some j) (later_or o p)
latest true j o p = refl
latest false j o p = refl

found_behind : (rows : List (List ℕ × Json)) (k : List ℕ) (j : Json) (name : List ℕ)
    → get_member name (members_onto (rows ++ (k, j) ∷ []) no_members) ≡ cond (bytes_eq k name) (Some j) (get_member name (members_onto rows no_members))
found_behind [] k j name = refl
found_behind (row ∷ rows) k j name =
    ap (λ o. later_or o (cond (bytes_eq row.0 name) (Some row.1) None)) (found_behind rows k j name) ∙ latest (bytes_eq k name) j _ _

-- what is found in the object of these members and one behind them
pub object_with : (rows : List (List ℕ × Json)) (k : List ℕ) (j : Json) → IsWith k j (object_of rows) (object_of (rows ++ (k, j) ∷ []))
object_with rows k j name = found_behind rows k j name

-- an item that was read behind a look for the bracket
pub next_read : (depth : ℕ) (start : List Token) (js : List Json) (ts same r : List Token) (j : Json) → ItemsRead depth start js ts → (after_end_array ts ≡ None) × (same ≡ ts) → value depth same ≡ Some (j, r)
    → ItemsRead depth start (js ++ j ∷ []) r
next_read depth start js ts same r j read going is = item_read depth start js ts r j read going.0 (subst (λ ts. value depth ts ≡ Some (j, r)) going.1 is)

-- it takes tokens
pub item_takes : (depth : ℕ) (ts same r : List Token) (j : Json) → (after_end_array ts ≡ None) × (same ≡ ts) → value depth same ≡ Some (j, r) → length r < length ts
item_takes depth ts same r j going is = subst (λ ts. length r < length ts) going.1 (value_takes depth same r j is)

-- the whole list, from its bracket
pub list_told : (depth : ℕ) (old start : List Token) (first : Lexeme) (js : List Json) (ts r : List Token) → 0 < depth → old ≡ token_of first ∷ start → first ≡ BeginArray → ItemsRead (depth - 1) start js ts
    → after_end_array ts ≡ Some r → value depth old ≡ Some (array (items_of js), r)
list_told depth old start first js ts r deep begins is read closed =
    ap (value depth) (begins ∙ ap (λ token. token_of token ∷ start) is) ∙ list_read depth start js ts r deep read closed

-- the key that was found
pub key_found : (ts s : List Token) (r : Result (Option (Bor (List ℕ))) Invalid) (found name : Option (Bor (List ℕ))) → Some found ≡ result_ok r
    → MatchResult r (λ k. read_key ts ≡ Some (option_map (λ s. s.now) k, s)) (λ _. read_key ts ≡ None) → found ≡ name → read_key ts ≡ Some (option_map (λ s. s.now) name, s)
key_found ts s r found name is holds same = of_ok _ _ r found is holds ∙ ap (λ k. Some (option_map (λ s. s.now) k, s)) same

-- a member takes tokens
pub member_takes : (depth : ℕ) (ts s r : List Token) (k : Option (List ℕ)) (j : Json) → read_key ts ≡ Some (k, s) → value depth s ≡ Some (j, r) → length r < length ts
member_takes depth ts s r k j key is = omega (arith, value_takes depth s r j is, read_key-shorter ts k s key)

-- the whole object, from its brace
pub object_told : (depth : ℕ) (old start : List Token) (first : Lexeme) (rows : List (List ℕ × Json)) (ts r : List Token) → 0 < depth → old ≡ token_of first ∷ start → first ≡ BeginObject
    → MembersRead (depth - 1) start rows ts → read_key ts ≡ Some (None, r) → value depth old ≡ Some (object_of rows, r)
object_told depth old start first rows ts r deep begins is read closed =
    ap (value depth) (begins ∙ ap (λ token. token_of token ∷ start) is) ∙ object_read depth start rows ts r deep read closed
