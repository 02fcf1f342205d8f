-- What a log says: each member's vote for a transaction once, as clause 111 wants it.
use Rattle.qs_world_lawful.proofs.Words.{◌≡◌, ℕ, ◌==◌, Bool, true, false, List, [], ◌∷◌, ◌++◌, refl, ap, ◌∙◌, map, fold, arith, nat_tests, not, ◌&&◌, if◌then◌else◌, filter, list_any, NodeNo, Tid, Found, Record, votes_once, is_same_vote, Prepared, Recovery, nothing_said, recovery, found_record, is_vote_of, mark_committed, with_list, names_transaction, open_vote, found_of, found_votes, and_from, not-true, and_first, and_last}
use Rattle.qs_record.specs.declared.record.Record.TheVariants as records
use Rattle.qs_restart.specs.Recovery.{is_of}
use Rattle.qs_world.specs.Moves as moves

-- a vote is the same as another where that one is the same as it
pub same_vote_sym : (v w : Prepared) → is_same_vote (found_of v) (found_of w) ≡ is_vote_of w.tid w.server v
same_vote_sym v w = turn (w.tid.home.0 == v.tid.home.0) (v.tid.home.0 == w.tid.home.0) (w.tid.inc == v.tid.inc) (v.tid.inc == w.tid.inc) (w.tid.seq == v.tid.seq) (v.tid.seq == w.tid.seq) (w.server.0 == v.server.0) (v.server.0 == w.server.0)
    (flip _ _) (flip _ _) (flip _ _) (flip _ _)
  where
    flip : (a b : ℕ) → (a == b) ≡ (b == a)
    flip a b = grind (arith, nat_tests)

    turn : (a a' b b' c c' d d' : Bool) → a ≡ a' → b ≡ b' → c ≡ c' → d ≡ d' → ((a && (b && c)) && d) ≡ ((a' && (b' && c')) && d')
    turn a a' b b' c c' d d' p q r s = rw (p, q, r, s) refl

-- none of these is the same vote
abbrev none_same : Prepared → List Prepared → Bool
none_same v xs = not (list_any (is_vote_of v.tid v.server) xs)

none_filtered : (v : Prepared) (xs : List Prepared) → none_same v (filter (λ other. not (is_vote_of v.tid v.server other)) xs) ≡ true
none_filtered v [] = refl
none_filtered v (x ∷ xs) = by (is_vote_of v.tid v.server x) refl (none_filtered v xs)
  where
    by : (b : Bool) → is_vote_of v.tid v.server x ≡ b → none_same v (filter (λ other. not (is_vote_of v.tid v.server other)) xs) ≡ true → none_same v (filter (λ other. not (is_vote_of v.tid v.server other)) (x ∷ xs)) ≡ true
    by true is more = rw is more
    by false is more = rw (is, is) more

apart_filtered : (p : Prepared → Bool) (x : Found) (xs : List Prepared) → list_any (is_same_vote x) (map found_of xs) ≡ false → list_any (is_same_vote x) (map found_of (filter p xs)) ≡ false
apart_filtered p x [] h = refl
apart_filtered p x (y ∷ ys) h = by (p y) refl (is_same_vote x (found_of y)) refl (apart_filtered p x ys)
  where
    by : (b : Bool) → p y ≡ b → (c : Bool) → is_same_vote x (found_of y) ≡ c
        → (list_any (is_same_vote x) (map found_of ys) ≡ false → list_any (is_same_vote x) (map found_of (filter p ys)) ≡ false)
        → list_any (is_same_vote x) (map found_of (filter p (y ∷ ys))) ≡ false
    by b is true same more = absurd (cc (rw same at h))
    by true is false same more = rw (is, same) (more (rw same at h))
    by false is false same more = rw is (more (rw same at h))

once_filtered : (p : Prepared → Bool) (xs : List Prepared) → votes_once (map found_of xs) ≡ true → votes_once (map found_of (filter p xs)) ≡ true
once_filtered p [] h = refl
once_filtered p (x ∷ xs) h = by (p x) refl (once_filtered p xs (and_last _ _ h))
  where
    alone : list_any (is_same_vote (found_of x)) (map found_of xs) ≡ false
    alone = not-true _ (and_first _ _ h)

    by : (b : Bool) → p x ≡ b → votes_once (map found_of (filter p xs)) ≡ true → votes_once (map found_of (filter p (x ∷ xs))) ≡ true
    by true is more = rw is (and_from _ _ (ap not (apart_filtered p (found_of x) xs alone)) more)
    by false is more = rw is more

apart_more : (x v : Prepared) (xs : List Prepared) → list_any (is_same_vote (found_of x)) (map found_of xs) ≡ false → is_vote_of v.tid v.server x ≡ false → list_any (is_same_vote (found_of x)) (map found_of (xs ++ v ∷ [])) ≡ false
apart_more x v [] h other = rw (same_vote_sym x v, other) refl
apart_more x v (y ∷ ys) h other = by (is_same_vote (found_of x) (found_of y)) refl (λ alone. apart_more x v ys alone other)
  where
    by : (b : Bool) → is_same_vote (found_of x) (found_of y) ≡ b
        → (list_any (is_same_vote (found_of x)) (map found_of ys) ≡ false → list_any (is_same_vote (found_of x)) (map found_of (ys ++ v ∷ [])) ≡ false)
        → list_any (is_same_vote (found_of x)) (map found_of ((y ∷ ys) ++ v ∷ [])) ≡ false
    by true is more = absurd (cc (rw is at h))
    by false is more = rw is (more (rw is at h))

once_more : (v : Prepared) (xs : List Prepared) → votes_once (map found_of xs) ≡ true → none_same v xs ≡ true → votes_once (map found_of (xs ++ v ∷ [])) ≡ true
once_more v [] h none = refl
once_more v (x ∷ xs) h none = by (is_vote_of v.tid v.server x) refl (once_more v xs (and_last _ _ h))
  where
    by : (b : Bool) → is_vote_of v.tid v.server x ≡ b → (none_same v xs ≡ true → votes_once (map found_of (xs ++ v ∷ [])) ≡ true) → votes_once (map found_of ((x ∷ xs) ++ v ∷ [])) ≡ true
    by true is more = absurd (cc (rw is at none))
    by false is more = and_from _ _ (ap not (apart_more x v xs (not-true _ (and_first _ _ h)) is)) (more (rw is at none))

mark_left : (tid : Tid) (v : Prepared) → found_of (mark_committed tid v) ≡ found_of v
mark_left tid v = by (is_of tid v)
  where
    by : (b : Bool) → found_of (if b then record v { committed = true } else v) ≡ found_of v
    by true = refl
    by false = refl

marks_left : (tid : Tid) (xs : List Prepared) → map found_of (map (mark_committed tid) xs) ≡ map found_of xs
marks_left tid [] = refl
marks_left tid (x ∷ xs) = rw (mark_left tid x, marks_left tid xs) refl

once_listed : (tid : Tid) (told : List NodeNo) (found : Recovery) → votes_once (map found_of found.prepared) ≡ true → votes_once (map found_of (with_list tid told found).prepared) ≡ true
once_listed tid [] found h = once_filtered (λ vote. not (is_of tid vote)) found.prepared h
once_listed tid (node ∷ told) found h = ap votes_once (marks_left tid found.prepared) ∙ h

once_record : (found : Recovery) (rec : Record) → votes_once (map found_of found.prepared) ≡ true → votes_once (map found_of (found_record found rec).prepared) ≡ true
once_record found (records.Prepare tid server covers changes) h =
    let v : Prepared = record { tid = tid; server = server; covers = covers; changes = changes; committed = false } in
    once_more v (filter (λ other. not (is_vote_of tid server other)) found.prepared) (once_filtered _ found.prepared h) (none_filtered v found.prepared)
once_record found (records.Commit tid told) h = once_listed tid told (record found { files = _; audit = _; extra = _; committed = _ }) h
once_record found (records.Aborted tid) h = once_filtered (λ vote. not (is_of tid vote)) found.prepared h
once_record found (records.End tid) h = once_filtered (λ vote. not (is_of tid vote)) found.prepared h

once_all : (log : List Record) (said : Recovery) → votes_once (map found_of said.prepared) ≡ true → votes_once (map found_of (fold found_record said log).prepared) ≡ true
once_all [] said h = h
once_all (rec ∷ log) said h = once_all log (found_record said rec) (once_record said rec h)

map_twice : (xs : List Prepared) → map moves.found_of (map open_vote xs) ≡ map found_of xs
map_twice [] = refl
map_twice (x ∷ xs) = ap (λ (fs : List Found). found_of x ∷ fs) (map_twice xs)

-- a server's vote for a transaction stands in a log once
pub votes_once_in : (log : List Record) → votes_once (map found_of (recovery log).prepared) ≡ true
votes_once_in log = once_all log nothing_said refl

-- the votes that a restart finds are found once
pub found_once : (log : List Record) → votes_once (found_votes (recovery log)) ≡ true
found_once log =
    ap votes_once (map_twice (filter (λ vote. names_transaction vote.tid) (recovery log).prepared))
    ∙ once_filtered (λ vote. names_transaction vote.tid) (recovery log).prepared (once_all log nothing_said refl)
