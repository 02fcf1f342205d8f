-- What a table holds of a transaction after a change of its shares.
use Rattle.qs_book_laws.proofs.Words.{◌≡◌, ℕ, Bool, true, false, List, [], ◌∷◌, ◌++◌, ◌==◌, Option, refl, sym, ap, subst, ◌∙◌, unwrap_or, lookup, remove_entry, is_at, append-nil, tid_cmp, same_tid, Tid, same_tid-true, same_tid-self, Op, Reply, tid_exact, TableValue, share_of, nothing_held, served, released, Share, NodeValue, with_table}
use Rattle.qs_ops.specs.declared.reply.Reply.TheVariants as replies
use Rattle.qs_ops.specs.Table.{with_share, after_serve, change_by, with_vote}
use Rattle.qs_book_laws.proofs.Alikes.{tid_itself, at_exact}
use Rattle.qs_book_laws.proofs.Faces.{either_way}
use Rattle.qs_book_laws.proofs.Maps.{lookup_put, lookup_put_apart}

pub at_other : (tid t : Tid) → same_tid t tid ≡ false → is_at (tid_cmp tid) t ≡ false
at_other tid t h = by (is_at (tid_cmp tid) t) refl
  where
    by : (b : Bool) → is_at (tid_cmp tid) t ≡ b → b ≡ false
    by false is = refl
    by true is =
        let e : tid ≡ t = at_exact tid t is in
        let self : same_tid t tid ≡ true = subst (λ (x : Tid). same_tid t x ≡ true) (sym e) (same_tid-self t) in
        absurd (cc (self, h))

pub same_tid_swapped : (t tid : Tid) → same_tid t tid ≡ false → same_tid tid t ≡ false
same_tid_swapped t tid h = by (same_tid tid t) refl
  where
    by : (b : Bool) → same_tid tid t ≡ b → b ≡ false
    by false is = refl
    by true is =
        let e : tid ≡ t = same_tid-true tid t is in
        let self : same_tid t tid ≡ true = subst (λ (x : Tid). same_tid t x ≡ true) (sym e) (same_tid-self t) in
        absurd (cc (self, h))

-- without another entry each is found as before
pub removed_apart : {K X : Type 0} (p q : K → Bool) → ((k : K) → q k ≡ true → p k ≡ false) → (es : List (K × X)) → lookup q (remove_entry p es) ≡ lookup q es
removed_apart p q apart [] = refl
removed_apart p q apart (e ∷ es) = by (p e.0) (q e.0) refl refl (removed_apart p q apart es)
  where
    by : (b c : Bool) → p e.0 ≡ b → q e.0 ≡ c → lookup q (remove_entry p es) ≡ lookup q es → lookup q (remove_entry p (e ∷ es)) ≡ lookup q (e ∷ es)
    by true true is has more = let no : p e.0 ≡ false = apart e.0 has in absurd (cc (is, no))
    by true false is has more = rw (is, has) refl
    by false true is has more = rw (is, has) refl
    by false false is has more = rw (is, has) more

pub share_put : (table : TableValue) (tid : Tid) (share : Share) → share_of (with_share table tid share) tid ≡ share
share_put table tid share = ap (λ (o : Option Share). unwrap_or o nothing_held) (lookup_put tid_cmp tid share (tid_itself tid) table.shares)

pub share_put_other : (table : TableValue) (t tid : Tid) (share : Share) → same_tid t tid ≡ false → share_of (with_share table t share) tid ≡ share_of table tid
share_put_other table t tid share h =
    ap (λ (o : Option Share). unwrap_or o nothing_held)
    (lookup_put_apart tid_cmp t share (λ x. tid_exact t x) (is_at (tid_cmp tid)) (at_other tid t h) table.shares)

pub share_released_other : (table : TableValue) (t tid : Tid) → same_tid t tid ≡ false → share_of (released table t) tid ≡ share_of table tid
share_released_other table t tid h =
    ap (λ (o : Option Share). unwrap_or o nothing_held)
    (removed_apart (is_at (tid_cmp t)) (is_at (tid_cmp tid)) apart table.shares)
  where
    other : same_tid tid t ≡ false
    other = same_tid_swapped t tid h

    apart : (k : Tid) → is_at (tid_cmp tid) k ≡ true → is_at (tid_cmp t) k ≡ false
    apart k is = subst (λ (x : Tid). is_at (tid_cmp t) x ≡ false) (at_exact tid k is) (at_other t tid other)

serve_changes : (share : Share) (op : Op) (reply : Reply) → (after_serve share op reply).changes ≡ share.changes ++ change_by op reply
serve_changes share op replies.TooMany = sym (append-nil share.changes)
serve_changes share op replies.Done = refl
serve_changes share op (replies.Value text) = refl
serve_changes share op (replies.Left ticks) = refl
serve_changes share op (replies.Names list) = refl
serve_changes share op (replies.Notes list) = refl
serve_changes share op (replies.Busy holder) = refl
serve_changes share op replies.Absent = refl
serve_changes share op replies.TooLong = refl

-- a served request leaves its change at the end
pub share_served : (table : TableValue) (tid : Tid) (op : Op) (reply : Reply) → (share_of (served table tid op reply) tid).changes ≡ (share_of table tid).changes ++ change_by op reply
share_served table tid op reply =
    ap (λ (s : Share). s.changes) (share_put table tid (after_serve (share_of table tid) op reply)) ∙ serve_changes (share_of table tid) op reply

pub share_served_other : (table : TableValue) (t tid : Tid) (op : Op) (reply : Reply) → same_tid t tid ≡ false → share_of (served table t op reply) tid ≡ share_of table tid
share_served_other table t tid op reply h = share_put_other table t tid (after_serve (share_of table t) op reply) h

-- a vote leaves each change
pub share_voted : (table : TableValue) (t tid : Tid) (voted : Bool) → (share_of (with_vote table t voted) tid).changes ≡ (share_of table tid).changes
share_voted table t tid voted = by (same_tid t tid) refl
  where
    by : (b : Bool) → same_tid t tid ≡ b → (share_of (with_vote table t voted) tid).changes ≡ (share_of table tid).changes
    by true is =
        subst (λ (x : Tid). (share_of (with_vote table t voted) x).changes ≡ (share_of table x).changes) (same_tid-true t tid is)
        (ap (λ (s : Share). s.changes) (share_put table t (record (share_of table t) { voted = voted })))
    by false is = ap (λ (s : Share). s.changes) (share_put_other table t tid (record (share_of table t) { voted = voted }) is)

-- ---- tables of a node

-- files, or audit
abbrev pub number : Bool → ℕ
number true = 0
number false = 1

abbrev pub table : Bool → NodeValue → TableValue
table true v = v.files
table false v = v.audit

pub table_mine : (b : Bool) (f : TableValue → TableValue) (v : NodeValue) → table b (with_table (number b) f v) ≡ f (table b v)
table_mine true f v = refl
table_mine false f v = refl

pub table_other : (b : Bool) (s : ℕ) (f : TableValue → TableValue) (v : NodeValue) → (s == number b) ≡ false → table b (with_table s f v) ≡ table b v
table_other true s f v h =
    rw h (either_way (table true) (s == 1) _ _ _ refl
    (either_way (table true) (s == 2) _ _ _ refl
    (either_way (table true) (s == 4) _ _ _ refl
    (either_way (table true) (s == 5) _ _ _ refl refl))))
table_other false s f v h =
    rw h (either_way (table false) (s == 0) _ _ _ refl
    (either_way (table false) (s == 2) _ _ _ refl
    (either_way (table false) (s == 4) _ _ _ refl
    (either_way (table false) (s == 5) _ _ _ refl refl))))
