-- What writers that run one after the other add.
use Rattle.std.proofs.Common.{◌≡◌, ℕ, List, [], ◌∷◌, ◌++◌, length, take, map, get_or, ◌<◌, ◌+◌, subst, true, Result, OnOk, OnErr, refl, ap, ◌∙◌, sym, append_assoc, append-nil}
use Rattle.std.proofs.Math.Seq.{take-append_seam}
use Rattle.std.proofs.lemmas.List.{take_more, map-append}
use Rattle.std.proofs.lemmas.Result.{on_ok_weaker, on_err_weaker}
use Rattle.qs_base.specs.declared.identifiers.NodeNo.{NodeNo}
use Rattle.qs_base.specs.declared.identifiers.ServerNo.{ServerNo}
use Rattle.qs_base.specs.declared.identifiers.Tid.{Tid}
use Rattle.qs_ops.specs.declared.operation.Op.{Op}
use Rattle.qs_ops.specs.Spelled.{IsSpelled, AreChanges}
use Rattle.qs_record.specs.declared.record.Record.TheVariants.{Prepare, Commit}
use Rattle.qs_codec.specs.Grammar.{Field, Byte, Word, Number, Spells}
use Rattle.qs_codec.specs.Writing.{Appends}
use Rattle.qs_record.specs.Grammar.{Joined, SpellsAll, IsTid, SpellsTid, AreNodes, SpellsNodes, op_fields, SpellsOp, SpellsOps, SpellsChanges, SpellsRecord, is_server, node_field}
use Rattle.qs_record.specs.Writing.{Adds, Grows}

-- ---- a list that has grown

pub grows_not : (a : List ℕ) → Grows a a
grows_not a = record { part = []; added = sym (append-nil a) }

pub grows_more : (a b c : List ℕ) → Grows a b → Grows b c → Grows a c
grows_more a b c p q = record {
  part = p.part ++ q.part;
  added = q.added ∙ ap (λ (xs : List ℕ). xs ++ q.part) p.added ∙ append_assoc a p.part q.part;
}

pub adds_grows : {P : List ℕ → Type 0} {a b : List ℕ} → Adds P a b → Grows a b
adds_grows p = record { part = p.part; added = p.added }

pub field_grows : {f : Field} {a b : List ℕ} → Appends f a b → Grows a b
field_grows p = record { part = p.part; added = p.added }

pub behind_grows : {E : Type 0} (result : Result (Unit {0}) E) {P : List ℕ → Type 0} (a b c : List ℕ) → Adds P a b → OnErr result (Grows b c) → OnErr result (Grows a c)
behind_grows result a b c p q = on_err_weaker result (grows_more a b c (adds_grows p)) q

-- what stood before is its front
pub grown_front : (a b : List ℕ) → Grows a b → take (length a) b ≡ a
grown_front a b p = ap (take (length a)) p.added ∙ take-append_seam a p.part

-- ---- one part behind the other

pub adds_field : (f : Field) (a b : List ℕ) → Appends f a b → Adds (Spells f) a b
adds_field f a b p = record { part = p.part; spelled = p.spelled; added = p.added }

pub adds_none : (a : List ℕ) → Adds (SpellsAll []) a a
adds_none a = record { part = []; spelled = refl; added = sym (append-nil a) }

pub adds_joined : (P Q : List ℕ → Type 0) (a b c : List ℕ) → Adds P a b → Adds Q b c → Adds (Joined P Q) a c
adds_joined P Q a b c p q = record {
  part = p.part ++ q.part;
  spelled = record { front = p.part; back = q.part; whole = refl; first = p.spelled; second = q.spelled };
  added = q.added ∙ ap (λ (xs : List ℕ). xs ++ q.part) p.added ∙ append_assoc a p.part q.part;
}

pub adds_as : (P Q : List ℕ → Type 0) (a b : List ℕ) → ((part : List ℕ) → P part → Q part) → Adds P a b → Adds Q a b
adds_as P Q a b as_well p = record { part = p.part; spelled = as_well p.part p.spelled; added = p.added }

-- one, two and three fields
pub adds_one : {f : Field} {a b : List ℕ} → Appends f a b → Adds (SpellsAll (f ∷ [])) a b
adds_one {f} {a} {b} p = adds_joined (Spells f) (SpellsAll []) a b b (adds_field f a b p) (adds_none b)

pub adds_two : {f g : Field} {a b c : List ℕ} → Appends f a b → Appends g b c → Adds (SpellsAll (f ∷ g ∷ [])) a c
adds_two {f} {g} {a} {b} {c} p q = adds_joined (Spells f) (SpellsAll (g ∷ [])) a b c (adds_field f a b p) (adds_one q)

pub adds_three : {f g h : Field} {a b c d : List ℕ} → Appends f a b → Appends g b c → Appends h c d → Adds (SpellsAll (f ∷ g ∷ h ∷ [])) a d
adds_three {f} {g} {h} {a} {b} {c} {d} p q r = adds_joined (Spells f) (SpellsAll (g ∷ h ∷ [])) a b d (adds_field f a b p) (adds_two q r)

-- ---- one field, or one operation, more

pub all_more : (fs : List Field) (f : Field) (a b : List ℕ) → SpellsAll fs a → Spells f b → SpellsAll (fs ++ f ∷ []) (a ++ b)
all_more [] f a b p q = record { front = b; back = []; whole = ap (λ (xs : List ℕ). xs ++ b) p ∙ sym (append-nil b); first = q; second = refl }
all_more (g ∷ fs) f a b p q = record {
  front = p.front;
  back = p.back ++ b;
  whole = ap (λ (xs : List ℕ). xs ++ b) p.whole ∙ append_assoc p.front p.back b;
  first = p.first;
  second = all_more fs f p.back b p.second q;
}

pub ops_more : (ops : List Op) (op : Op) (a b : List ℕ) → SpellsOps ops a → SpellsOp op b → SpellsOps (ops ++ op ∷ []) (a ++ b)
ops_more [] op a b p q = record { front = b; back = []; whole = ap (λ (xs : List ℕ). xs ++ b) p ∙ sym (append-nil b); first = q; second = refl }
ops_more (o ∷ ops) op a b p q = record {
  front = p.front;
  back = p.back ++ b;
  whole = ap (λ (xs : List ℕ). xs ++ b) p.whole ∙ append_assoc p.front p.back b;
  first = p.first;
  second = ops_more ops op p.back b p.second q;
}

-- so many nodes, and the next
pub adds_node : (nodes : List NodeNo) (i : ℕ) (d : NodeNo) (a b c : List ℕ) → i < length nodes
    → Adds (SpellsAll (map node_field (take i nodes))) a b → Appends (Byte (get_or nodes i d).0) b c → Adds (SpellsAll (map node_field (take (i + 1) nodes))) a c
adds_node nodes i d a b c inside p q =
    let n : NodeNo = get_or nodes i d in
    let fields : map node_field (take i nodes) ++ node_field n ∷ [] ≡ map node_field (take (i + 1) nodes) =
    sym (map-append node_field (take i nodes) (n ∷ [])) ∙ ap (map node_field) (sym (take_more nodes i d inside)) in
    record {
      part = p.part ++ q.part;
      spelled = subst (λ (fs : List Field). SpellsAll fs (p.part ++ q.part)) fields (all_more (map node_field (take i nodes)) (node_field n) p.part q.part p.spelled q.spelled);
      added = q.added ∙ ap (λ (xs : List ℕ). xs ++ q.part) p.added ∙ append_assoc a p.part q.part;
    }

-- so many operations, and the next
pub adds_op : (ops : List Op) (i : ℕ) (op : Op) (a b c : List ℕ) → i < length ops → op ≡ get_or ops i op
    → Adds (SpellsOps (take i ops)) a b → Adds (SpellsOp op) b c → Adds (SpellsOps (take (i + 1) ops)) a c
adds_op ops i op a b c inside is p q =
    let more : take i ops ++ op ∷ [] ≡ take (i + 1) ops = ap (λ (o : Op). take i ops ++ o ∷ []) is ∙ sym (take_more ops i op inside) in
    record {
      part = p.part ++ q.part;
      spelled = subst (λ (os : List Op). SpellsOps os (p.part ++ q.part)) more (ops_more (take i ops) op p.part q.part p.spelled q.spelled);
      added = q.added ∙ ap (λ (xs : List ℕ). xs ++ q.part) p.added ∙ append_assoc a p.part q.part;
    }

-- ---- where the last writer's answer is the answer

pub two_added : {E : Type 0} (result : Result (Unit {0}) E) (f g : Field) (a b c : List ℕ) → Appends f a b → OnOk result (Appends g b c)
    → OnOk result (Adds (SpellsAll (f ∷ g ∷ [])) a c)
two_added result f g a b c p q = on_ok_weaker result (adds_two p) q

pub three_added : {E : Type 0} (result : Result (Unit {0}) E) (f g h : Field) (a b c d : List ℕ) → Appends f a b → Appends g b c → OnOk result (Appends h c d)
    → OnOk result (Adds (SpellsAll (f ∷ g ∷ h ∷ [])) a d)
three_added result f g h a b c d p q r = on_ok_weaker result (adds_three p q) r

pub tid_added : {E : Type 0} (result : Result (Unit {0}) E) (tid : Tid) (a b c d : List ℕ) → IsTid tid → Appends (Byte tid.home.0) a b → Appends (Number tid.inc) b c
    → OnOk result (Appends (Word tid.seq) c d) → OnOk result (Adds (SpellsTid tid) a d)
tid_added result tid a b c d is p q r =
    on_ok_weaker result (λ (last : Appends (Word tid.seq) c d).
    adds_as (SpellsAll (Byte tid.home.0 ∷ Number tid.inc ∷ Word tid.seq ∷ [])) (SpellsTid tid) a d (λ part s. record { valid = is; spelled = s }) (adds_three p q last)) r

pub nodes_added : {E : Type 0} (result : Result (Unit {0}) E) (nodes : List NodeNo) (a b c : List ℕ) → AreNodes nodes → Appends (Byte (length nodes)) a b
    → OnOk result (Adds (SpellsAll (map node_field nodes)) b c) → OnOk result (Adds (SpellsNodes nodes) a c)
nodes_added result nodes a b c are p q =
    on_ok_weaker result (λ (last : Adds (SpellsAll (map node_field nodes)) b c).
    adds_as (SpellsAll (Byte (length nodes) ∷ map node_field nodes)) (SpellsNodes nodes) a c (λ part s. record { valid = are; spelled = s })
    (adds_joined (Spells (Byte (length nodes))) (SpellsAll (map node_field nodes)) a b c (adds_field (Byte (length nodes)) a b p) last)) q

pub changes_added : {E : Type 0} (result : Result (Unit {0}) E) (changes : List Op) (a b c : List ℕ) → AreChanges changes → Appends (Word (length changes)) a b
    → OnOk result (Adds (SpellsOps changes) b c) → OnOk result (Adds (SpellsChanges changes) a c)
changes_added result changes a b c are p q =
    on_ok_weaker result (λ (last : Adds (SpellsOps changes) b c).
    adds_as (Joined (Spells (Word (length changes))) (SpellsOps changes)) (SpellsChanges changes) a c (λ part s. record { valid = are; spelled = s })
    (adds_joined (Spells (Word (length changes))) (SpellsOps changes) a b c (adds_field (Word (length changes)) a b p) last)) q

pub op_added : (op : Op) (a b : List ℕ) → IsSpelled op → Adds (SpellsAll (op_fields op)) a b → Adds (SpellsOp op) a b
op_added op a b is p = adds_as (SpellsAll (op_fields op)) (SpellsOp op) a b (λ part s. record { valid = is; spelled = s }) p

pub regrouped : (P Q R : List ℕ → Type 0) (part : List ℕ) → Joined (Joined P Q) R part → Joined P (Joined Q R) part
regrouped P Q R part j = record {
  front = j.first.front;
  back = j.first.back ++ j.back;
  whole = j.whole ∙ ap (λ (xs : List ℕ). xs ++ j.back) j.first.whole ∙ append_assoc j.first.front j.first.back j.back;
  first = j.first.first;
  second = record { front = j.first.back; back = j.back; whole = refl; first = j.first.second; second = j.second };
}

-- a part behind a tag and an identifier
pub tagged_added : {E : Type 0} (result : Result (Unit {0}) E) (P Q R : List ℕ → Type 0) (a b c : List ℕ) → Adds (Joined P Q) a b → OnOk result (Adds R b c)
    → OnOk result (Adds (Joined P (Joined Q R)) a c)
tagged_added result P Q R a b c p q =
    on_ok_weaker result (λ (last : Adds R b c).
    adds_as (Joined (Joined P Q) R) (Joined P (Joined Q R)) a c (regrouped P Q R) (adds_joined (Joined P Q) R a b c p last)) q

-- a server's share behind a tag and an identifier
pub prepare_added : {E : Type 0} (result : Result (Unit {0}) E) (tid : Tid) (server : ServerNo) (covers : ℕ) (changes : List Op) (a b c d : List ℕ) → is_server server.0 ≡ true
    → Adds (Joined (Spells (Byte 1)) (SpellsTid tid)) a b → Adds (SpellsAll (Byte server.0 ∷ Word covers ∷ [])) b c → OnOk result (Adds (SpellsChanges changes) c d)
    → OnOk result (Adds (SpellsRecord (Prepare tid server covers changes)) a d)
prepare_added result tid server covers changes a b c d is p q r =
    let Share : List ℕ → Type 0 = SpellsAll (Byte server.0 ∷ Word covers ∷ []) in
    on_ok_weaker result (λ (last : Adds (SpellsChanges changes) c d).
    let behind : Adds (Joined Share (SpellsChanges changes)) b d = adds_joined Share (SpellsChanges changes) b c d q last in
    let joined = adds_joined (Joined (Spells (Byte 1)) (SpellsTid tid)) (Joined Share (SpellsChanges changes)) a b d p behind in
    let whole = regrouped (Spells (Byte 1)) (SpellsTid tid) (Joined Share (SpellsChanges changes)) joined.part joined.spelled in
    record { part = joined.part; spelled = (is, whole); added = joined.added }) r

pub commit_added : {E : Type 0} (result : Result (Unit {0}) E) (tid : Tid) (told : List NodeNo) (a b c : List ℕ)
    → Adds (Joined (Spells (Byte 2)) (SpellsTid tid)) a b → OnOk result (Adds (SpellsNodes told) b c) → OnOk result (Adds (SpellsRecord (Commit tid told)) a c)
commit_added result tid told a b c p q = tagged_added result (Spells (Byte 2)) (SpellsTid tid) (SpellsNodes told) a b c p q
