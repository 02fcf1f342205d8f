-- What the machine has in doubt, names among lists, and what a served operation adds.
use Rattle.qs_world_lawful.proofs.Words.{◌≡◌, ◌⊎◌, inl, inr, ℕ, Bool, true, false, List, [], ◌∷◌, ◌++◌, Option, Some, None, refl, sym, ap, subst, ◌∙◌, map, list_any-append, flat_map-append, ◌||◌, unwrap_or, if◌then◌else◌, filter, lookup, set_value, insert_entry, is_at, tid_cmp, ServerNo, Tid, tid_exact, or-true, tid_itself, lookup_put, lookup_put_apart, lookup_set, bound_names, with_names, Request, names_no, TableValue, after_serve, nothing_held, share_of, with_share, Op, Put, Append, Del, Get}
use Rattle.qs_world_lawful.proofs.Words.{Listing, Note, Notes, Bind, Find, Timer, Left, Window, Title, Keep, Fetch, Lend, Extra, Reply, Share, doubted, has_name, is_bind, AreFor, IsWithin, op_in, false≢true}
use Rattle.qs_ipc.specs.Queue.{is_for}
use Rattle.qs_book_machine.specs.Book.{is_done}
use Rattle.qs_book_machine.specs.Nodes.{bound_name}
use Rattle.qs_ops.specs.Spelled.{is_change}
use Rattle.qs_ops.specs.declared.reply.Reply.TheVariants as replies
use Rattle.qs_world_lawful.proofs.Apart.{Apart}

pub itself : (u : Tid) → is_at (tid_cmp u) u ≡ true
itself u = rw (tid_itself u) refl

-- ---- the machine's doubts

pub set_apart : {X : Type 0} (p q : Tid → Bool) → ((k : Tid) → q k ≡ true → p k ≡ false) → (es : List (Tid × X)) (w : X) → lookup q (set_value p es w) ≡ lookup q es
set_apart p q far [] w = refl
set_apart {X} p q far (e ∷ es) w = by (p e.0) refl (q e.0) refl (set_apart p q far es w)
  where
    by : (b : Bool) → p e.0 ≡ b → (c : Bool) → q e.0 ≡ c → lookup q (set_value p es w) ≡ lookup q es → lookup q (set_value p (e ∷ es) w) ≡ lookup q (e ∷ es)
    by true is true has more = absurd (false≢true (sym (far e.0 has) ∙ is))
    by true is false has more = rw (is, has) refl
    by false is true has more = rw (is, has) refl
    by false is false has more = rw (is, has) more

pub doubted_more : (tid : Tid) (names : List (List ℕ)) (doubts : List (Tid × List (List ℕ))) → doubted (with_names tid names doubts) tid ≡ doubted doubts tid ++ names
doubted_more tid names doubts = by (lookup (is_at (tid_cmp tid)) doubts) refl
  where
    by : (o : Option (List (List ℕ))) → lookup (is_at (tid_cmp tid)) doubts ≡ o
        → doubted (elim o [ None ↦ insert_entry tid_cmp doubts tid names | Some known ↦ set_value (is_at (tid_cmp tid)) doubts (known ++ names) ]) tid ≡ unwrap_or o [] ++ names
    by None is = ap (λ (o : Option (List (List ℕ))). unwrap_or o []) (lookup_put tid_cmp tid names (tid_itself tid) doubts)
    by (Some known) is = ap (λ (o : Option (List (List ℕ))). unwrap_or o []) (lookup_set (is_at (tid_cmp tid)) doubts known (known ++ names) is)

pub doubted_apart : (tid t : Tid) (names : List (List ℕ)) (doubts : List (Tid × List (List ℕ))) → Apart tid t → doubted (with_names tid names doubts) t ≡ doubted doubts t
doubted_apart tid t names doubts far = by (lookup (is_at (tid_cmp tid)) doubts)
  where
    by : (o : Option (List (List ℕ))) → doubted (elim o [ None ↦ insert_entry tid_cmp doubts tid names | Some known ↦ set_value (is_at (tid_cmp tid)) doubts (known ++ names) ]) t ≡ doubted doubts t
    by None = ap (λ (o : Option (List (List ℕ))). unwrap_or o []) (lookup_put_apart tid_cmp tid names (tid_exact tid) (is_at (tid_cmp t)) far.at doubts)
    by (Some known) = ap (λ (o : Option (List (List ℕ))). unwrap_or o []) (set_apart (is_at (tid_cmp tid)) (is_at (tid_cmp t)) far.keys doubts (known ++ names))

-- ---- names among lists

pub in_left : (name : List ℕ) (xs ys : List (List ℕ)) → has_name name xs ≡ true → has_name name (xs ++ ys) ≡ true
in_left name xs ys is = rw (list_any-append _ xs ys, is) refl

pub in_right : (name : List ℕ) (xs ys : List (List ℕ)) → has_name name ys ≡ true → has_name name (xs ++ ys) ≡ true
in_right name xs ys is = rw (list_any-append _ xs ys, is) (or-true (has_name name xs))

pub in_either : (name : List ℕ) (xs ys : List (List ℕ)) → has_name name (xs ++ ys) ≡ true → (has_name name xs ≡ true) ⊎ (has_name name ys ≡ true)
in_either name xs ys is = by (has_name name xs) refl
  where
    by : (b : Bool) → has_name name xs ≡ b → (has_name name xs ≡ true) ⊎ (has_name name ys ≡ true)
    by true has = inl has
    by false has = inr (sym (ap (λ (b : Bool). b || has_name name ys) has) ∙ (sym (list_any-append _ xs ys) ∙ is))

-- what an operation binds, a list with it binds
pub bound_among : (name : List ℕ) (op : Op) (ops : List Op) (p : Request → Bool) (requests : List Request) → IsWithin (op ∷ ops) (map op_in (filter p requests)) → has_name name (bound_names (op ∷ [])) ≡ true → has_name name (bound_names (map op_in requests)) ≡ true
bound_among name op ops p [] w has = absurd w
bound_among name op ops p (r ∷ rs) w has = by (p r) refl (bound_among name op ops p rs)
  where
    whole : (xs : List Op) → bound_names (r.op ∷ xs) ≡ bound_names (r.op ∷ []) ++ bound_names xs
    whole xs = flat_map-append bound_name (r.op ∷ []) xs

    later : has_name name (bound_names (map op_in rs)) ≡ true → has_name name (bound_names (map op_in (r ∷ rs))) ≡ true
    later is = ap (has_name name) (whole (map op_in rs)) ∙ in_right name (bound_names (r.op ∷ [])) (bound_names (map op_in rs)) is

    by : (b : Bool) → p r ≡ b → (IsWithin (op ∷ ops) (map op_in (filter p rs)) → has_name name (bound_names (op ∷ [])) ≡ true → has_name name (bound_names (map op_in rs)) ≡ true)
        → has_name name (bound_names (map op_in (r ∷ rs))) ≡ true
    by false is more = later (more (rw is at w) has)
    by true is more = of (rw is at w)
      where
        of : IsWithin (op ∷ ops) (r.op ∷ map op_in (filter p rs)) → has_name name (bound_names (map op_in (r ∷ rs))) ≡ true
        of (inl both) = ap (has_name name) (whole (map op_in rs)) ∙ in_left name (bound_names (r.op ∷ [])) (bound_names (map op_in rs)) (subst (λ (o : Op). has_name name (bound_names (o ∷ [])) ≡ true) both.0 has)
        of (inr v) = later (more v has)

-- what stands first is for its server
pub within_for : (server : ServerNo) (op : Op) (ops rs : List Op) → IsWithin (op ∷ ops) rs → AreFor server rs → is_for server op ≡ true
within_for server op ops [] w fits = absurd w
within_for server op ops (r ∷ rs) (inl both) fits = subst (λ (o : Op). is_for server o ≡ true) (sym both.0) fits.0
within_for server op ops (r ∷ rs) (inr w) fits = within_for server op ops rs w fits.1

-- ---- what a served operation adds

-- names change by binding alone
pub bind_of : (op : Op) → is_for (record { 0 = names_no }) op ≡ true → is_change op ≡ true → is_bind op ≡ true
bind_of (Put name text) fits is = absurd (cc fits)
bind_of (Append name text) fits is = absurd (cc fits)
bind_of (Del name) fits is = absurd (cc fits)
bind_of (Get name) fits is = absurd (cc fits)
bind_of Listing fits is = absurd (cc fits)
bind_of (Note text) fits is = absurd (cc fits)
bind_of Notes fits is = absurd (cc fits)
bind_of (Bind name text) fits is = refl
bind_of (Find name) fits is = absurd (cc is)
bind_of (Timer name ticks) fits is = absurd (cc fits)
bind_of (Left name) fits is = absurd (cc fits)
bind_of (Window name text) fits is = absurd (cc fits)
bind_of (Title name) fits is = absurd (cc fits)
bind_of (Keep name text) fits is = absurd (cc fits)
bind_of (Fetch name) fits is = absurd (cc fits)
bind_of (Lend client) fits is = absurd (cc is)
bind_of (Extra code text) fits is = absurd (cc fits)

-- nothing, or the operation where it is done
pub record IsAdded (op : Op) (reply : Reply) (before after : List Op) : Type 0 where
  pub done : is_done reply ≡ true
  pub bind : is_bind op ≡ true
  pub more : after ≡ before ++ op ∷ []

pub nothing_more : (xs : List Op) → xs ++ [] ≡ xs
nothing_more [] = refl
nothing_more (x ∷ xs) = ap (λ (ys : List Op). x ∷ ys) (nothing_more xs)

pub added : (op : Op) (reply : Reply) (share : Share) → is_for (record { 0 = names_no }) op ≡ true → ((after_serve share op reply).changes ≡ share.changes) ⊎ IsAdded op reply share.changes (after_serve share op reply).changes
added op replies.Done share fits = by (is_change op) refl
  where
    by : (b : Bool) → is_change op ≡ b → ((share.changes ++ (if b then op ∷ [] else [])) ≡ share.changes) ⊎ IsAdded op replies.Done share.changes (share.changes ++ (if b then op ∷ [] else []))
    by true is = inr (record { done = refl; bind = bind_of op fits is; more = refl })
    by false is = inl (nothing_more share.changes)
added op (replies.Value text) share fits = inl (nothing_more share.changes)
added op (replies.Left ticks) share fits = inl (nothing_more share.changes)
added op (replies.Names list) share fits = inl (nothing_more share.changes)
added op (replies.Notes list) share fits = inl (nothing_more share.changes)
added op (replies.Busy holder) share fits = inl (nothing_more share.changes)
added op replies.Absent share fits = inl (nothing_more share.changes)
added op replies.TooMany share fits = inl refl
added op replies.TooLong share fits = inl (nothing_more share.changes)

pub share_own : (table : TableValue) (tid : Tid) (share : Share) → share_of (with_share table tid share) tid ≡ share
share_own table tid share = ap (λ (o : Option Share). unwrap_or o nothing_held) (lookup_put tid_cmp tid share (tid_itself tid) table.shares)
