-- Operations and changes that are read.
use Rattle.std.proofs.Common.{◌≡◌, ◌+◌, ◌-◌, ◌≤◌, ◌<◌, ◌^◌, ℕ, suc, List, [], ◌∷◌, ◌++◌, length, true, Result, Ok, Err, IfOk, All, subst, refl, ap, ◌∙◌, sym, append-nil, length-append, arith}
use Rattle.std.proofs.lemmas.List.Elements.{All-append, All-from_recursion}
use Rattle.qs_codec.specs.declared.fault.CodecFault.{CodecFault}
use Rattle.qs_codec.specs.Grammar.{Field, Byte, Word, Text, Spells}
use Rattle.qs_codec.specs.Reading.{Reading, Reads}
use Rattle.qs_ops.specs.declared.operation.Op.{Op}
use Rattle.qs_ops.specs.declared.operation.Op.TheVariants.{Listing, Note, Notes, Timer, Lend, Extra}
use Rattle.qs_ops.specs.Spelled.{IsSpelled, IsChange, IsName, IsOpText, is_change}
use Rattle.qs_record.specs.Grammar.{Joined, SpellsAll, SpellsOp, SpellsOps, SpellsChanges, op_fields}
use Rattle.qs_record.specs.Reading.{Takes, TakesBehind, TakesChanges, is_change_tag, change_at, changes_behind}
use Rattle.qs_record.proofs.Readers.{takes_none, takes_field, takes_first, takes_one, takes_two, takes_joined, takes_as}
use Rattle.qs_record.proofs.Rising.{prepended, prepended_none, prepended_more}
use Rattle.qs_record.proofs.Writers.{ops_more}

-- the fields of the operation begin with the tag, and the others were taken
pub behind_tag : (tag : ℕ) (op : Op) (fs : List Field) (old new : Reading) → op_fields op ≡ Byte tag ∷ fs → is_change op ≡ is_change_tag tag → IsSpelled op
    → Takes (SpellsAll fs) old new → TakesBehind tag old new op
behind_tag tag op fs old new is change valid taken = record {
  valid = valid;
  changes = change;
  taken = λ before read. subst (λ (gs : List Field). Takes (SpellsAll gs) before new) (sym is) (takes_first (Byte tag) fs before old new read taken);
}

pub timer_taken : (name : List ℕ) (ticks : ℕ) (a b c : Reading) → IsName name → Reads (Text name) a b → Reads (Word ticks) b c → TakesBehind 10 a c (Timer name ticks)
timer_taken name ticks a b c valid p q = behind_tag 10 (Timer name ticks) (Text name ∷ Word ticks ∷ []) a c refl refl valid (takes_two (Text name) (Word ticks) a b c p q)

pub note_taken : (text : List ℕ) (a b : Reading) → IsOpText text → Reads (Text text) a b → TakesBehind 6 a b (Note text)
note_taken text a b valid p = behind_tag 6 (Note text) (Text text ∷ []) a b refl refl valid (takes_one (Text text) a b p)

pub lend_taken : (client : ℕ) (a b : Reading) → Reads (Byte client) a b → TakesBehind 16 a b (Lend (record { 0 = client }))
lend_taken client a b p = behind_tag 16 (Lend (record { 0 = client })) (Byte client ∷ []) a b refl refl tt (takes_one (Byte client) a b p)

pub extra_taken : (code : ℕ) (text : List ℕ) (a b c : Reading) → IsOpText text → Reads (Word code) a b → Reads (Text text) b c → TakesBehind 17 a c (Extra code text)
extra_taken code text a b c valid p q = behind_tag 17 (Extra code text) (Word code ∷ Text text ∷ []) a c refl refl valid (takes_two (Word code) (Text text) a b c p q)

pub listing_taken : (a : Reading) → TakesBehind 5 a a Listing
listing_taken a = behind_tag 5 Listing [] a a refl refl tt (takes_none (SpellsAll []) a refl)

pub notes_taken : (a : Reading) → TakesBehind 7 a a Notes
notes_taken a = behind_tag 7 Notes [] a a refl refl tt (takes_none (SpellsAll []) a refl)

-- ---- a tag and what stands behind it

pub op_taken : (tag : ℕ) (op : Op) (a b c : Reading) → Reads (Byte tag) a b → TakesBehind tag b c op → Takes (SpellsOp op) a c
op_taken tag op a b c p q = takes_as (SpellsAll (op_fields op)) (SpellsOp op) a c (λ part s. record { valid = q.valid; spelled = s }) (q.taken a p)

pub change_taken : (tag : ℕ) (op : Op) (b c : Reading) → is_change_tag tag ≡ true → TakesBehind tag b c op → IsChange op
change_taken tag op b c is q = record { changes = q.changes ∙ is; spelled = q.valid }

-- where the last call's answer is the answer
pub op_answered : {E : Type 0} (result : Result Op E) (tag : ℕ) (a b c : Reading) → Reads (Byte tag) a b → IfOk result (TakesBehind tag b c)
    → IfOk result (λ op. Takes (SpellsOp op) a c)
op_answered (Ok op) tag a b c p q = op_taken tag op a b c p q
op_answered (Err e) tag a b c p q = tt

pub change_answered : {E : Type 0} (result : Result Op E) (tag : ℕ) (b c : Reading) → is_change_tag tag ≡ true → IfOk result (TakesBehind tag b c) → IfOk result IsChange
change_answered (Ok op) tag b c is q = change_taken tag op b c is q
change_answered (Err e) tag b c is q = tt

pub changes_answered : {E : Type 0} (result : Result (List Op) E) (count : ℕ) (a b c : Reading) → count < 2 ^ 32 → Reads (Word count) a b → IfOk result (TakesChanges count b c)
    → IfOk result (λ changes. Takes (SpellsChanges changes) a c)
changes_answered (Ok changes) count a b c few p q =
    let counted : Reads (Word (length changes)) a b = subst (λ (n : ℕ). Reads (Word n) a b) (sym q.counted) p in
    takes_as (Joined (Spells (Word (length changes))) (SpellsOps changes)) (SpellsChanges changes) a c
    (λ part s. record { valid = record { few = rw q.counted few; each = q.each }; spelled = s })
    (takes_joined (Spells (Word (length changes))) (SpellsOps changes) a b c (takes_field (Word (length changes)) a b counted) q.taken)
changes_answered (Err e) count a b c few p q = tt

-- an operation of a name alone, and of a name and a text
pub one_taken : (tag : ℕ) (op : Op) (name : List ℕ) (a b : Reading) → op_fields op ≡ Byte tag ∷ Text name ∷ [] → is_change op ≡ is_change_tag tag → IsSpelled op
    → Reads (Text name) a b → TakesBehind tag a b op
one_taken tag op name a b is change valid p = behind_tag tag op (Text name ∷ []) a b is change valid (takes_one (Text name) a b p)

pub two_taken : (tag : ℕ) (op : Op) (name text : List ℕ) (a b : Reading) → op_fields op ≡ Byte tag ∷ Text name ∷ Text text ∷ [] → is_change op ≡ is_change_tag tag → IsSpelled op
    → Takes (SpellsAll (Text name ∷ Text text ∷ [])) a b → TakesBehind tag a b op
two_taken tag op name text a b is change valid p = behind_tag tag op (Text name ∷ Text text ∷ []) a b is change valid p

-- ---- changes one after the other

-- so many of the changes were read
pub record ChangesRead (count turn : ℕ) (changes : List Op) (first here : Reading) : Type 0 where
  pub found : changes_behind count first ≡ prepended changes (changes_behind (count - turn) here)
  pub counted : length changes ≡ turn
  pub each : All IsChange changes
  pub taken : Takes (SpellsOps changes) first here

pub changes_begun : (count : ℕ) (r : Reading) → ChangesRead count 0 [] r r
changes_begun count r = record {
  found = prepended_none (changes_behind count r) ∙ ap (λ (k : ℕ). prepended [] (changes_behind k r)) (omega arith);
  counted = refl;
  each = All-from_recursion IsChange [] tt;
  taken = takes_none (SpellsOps []) r refl;
}

changes_step : (turn count : ℕ) (op : Op) (changes : List Op) (here next : Reading) → turn < count → change_at here ≡ Ok (op, next)
    → prepended changes (changes_behind (count - turn) here) ≡ prepended (changes ++ op ∷ []) (changes_behind (count - (turn + 1)) next)
unfolding changes_behind
changes_step turn count op changes here next below e =
    let left : count - turn ≡ suc (count - (turn + 1)) = omega arith in
    rw (left, e) (prepended_more changes op (changes_behind (count - (turn + 1)) next))

-- one operation more
takes_op : (op : Op) (ops : List Op) (a b c : Reading) → Takes (SpellsOps ops) a b → Takes (SpellsOp op) b c → Takes (SpellsOps (ops ++ op ∷ [])) a c
takes_op op ops a b c p q =
    takes_as (Joined (SpellsOps ops) (SpellsOp op)) (SpellsOps (ops ++ op ∷ [])) a c (as_ops op ops) (takes_joined (SpellsOps ops) (SpellsOp op) a b c p q)
  where
    as_ops : (op : Op) (ops : List Op) (part : List ℕ) → Joined (SpellsOps ops) (SpellsOp op) part → SpellsOps (ops ++ op ∷ []) part
    as_ops op ops part j = subst (SpellsOps (ops ++ op ∷ [])) (sym j.whole) (ops_more ops op j.front j.back j.first j.second)

pub changes_on : (count turn : ℕ) (op : Op) (changes : List Op) (first here next : Reading) → turn < count → ChangesRead count turn changes first here
    → change_at here ≡ Ok (op, next) → IsChange op → Takes (SpellsOp op) here next → ChangesRead count (turn + 1) (changes ++ op ∷ []) first next
changes_on count turn op changes first here next below old e is taken = record {
  found = old.found ∙ changes_step turn count op changes here next below e;
  counted = length-append changes (op ∷ []) ∙ ap (λ (k : ℕ). k + 1) old.counted;
  each = All-append IsChange changes (op ∷ []) old.each (All-from_recursion IsChange (op ∷ []) (is, tt));
  taken = takes_op op changes first here next old.taken taken;
}

-- one that is refused ends it
pub changes_ended : (count turn : ℕ) (changes : List Op) (first here : Reading) (fault : CodecFault) → turn < count → ChangesRead count turn changes first here
    → change_at here ≡ Err fault → changes_behind count first ≡ Err fault
unfolding changes_behind
changes_ended count turn changes first here fault below old e =
    let left : count - turn ≡ suc (count - (turn + 1)) = omega arith in
    old.found ∙ rw (left, e) refl

pub changes_done : (count turn : ℕ) (changes : List Op) (first here : Reading) → count ≤ turn → ChangesRead count turn changes first here
    → changes_behind count first ≡ Ok (changes, here)
unfolding changes_behind
changes_done count turn changes first here all old =
    let none : count - turn ≡ 0 = omega arith in
    old.found ∙ rw (none, append-nil) refl

pub changes_read : (count turn : ℕ) (changes : List Op) (first here : Reading) → count ≡ turn → ChangesRead count turn changes first here → TakesChanges count first here changes
changes_read count turn changes first here all old = record { counted = old.counted ∙ sym all; each = old.each; taken = old.taken }
