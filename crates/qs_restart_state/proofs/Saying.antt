-- What a state says.
use Rattle.std.proofs.Common.{◌≡◌, ◌∙◌, ℕ, Bool, true, false, List, [], ◌∷◌, ◌++◌, refl, sym, ap, append-nil, append_assoc, fold, map}
use Rattle.std.specs.Prelude.{not, ◌&&◌, ◌||◌, ◌==◌}
use Rattle.std.specs.List.{filter, flat_map, list_any, list_all}
use Rattle.std.proofs.lemmas.List.Sums.{fold-append}
use Rattle.std.proofs.lemmas.Bool.{and_from, not-true, not_from_false, or_from, or_parts}
use Rattle.qs_base.specs.Order.{same_tid}
use Rattle.qs_base.specs.declared.identifiers.NodeNo.{NodeNo}
use Rattle.qs_base.specs.declared.identifiers.ServerNo.{ServerNo}
use Rattle.qs_base.specs.declared.identifiers.Tid.{Tid}
use Rattle.qs_base_lemmas.proofs.Tests.{and_first, and_last, eqb-self}
use Rattle.qs_ops.specs.declared.operation.Op.{Op}
use Rattle.qs_record.specs.declared.record.Record.TheVariants as records
use Rattle.qs_restart.specs.Recovery.{Prepared, Untold, Recovery, files_no, audit_no, extra_no, names_transaction, is_of, is_vote_of, is_untold_of, mark_committed, nothing_said, found_record, recovery, prepare_of, commit_of, changes_at}
use Rattle.qs_restart.proofs.Behind.{flip, same_tid-flip}
use Rattle.qs_restart_state.specs.States.{contents_of, is_numbered, is_undecided, listed_of, state, state_said, state_tid, tid_of, undecided_of}
use Rattle.qs_restart_state.specs.Taken.{MayTake, are_once, has_list, is_of_none}
use Rattle.qs_restart_state.proofs.Lists.{all_filtered, none_filtered}

-- ---- contents

abbrev base : List Op → List Op → List Op → Recovery
base files audit extra = record { files = files; audit = audit; extra = extra; prepared = []; untold = []; committed = [] }

contents_say : (node : ℕ) (files audit extra : List Op) → fold found_record nothing_said (contents_of (state_tid node) files audit extra) ≡ base files audit extra
contents_say node [] [] [] = refl
contents_say node (f ∷ fs) [] [] = rw (eqb-self node) (ap (λ (l : List Op). base l [] []) (append-nil (f ∷ fs)))
contents_say node [] (a ∷ bs) [] = rw (eqb-self node) (ap (λ (l : List Op). base [] l []) (append-nil (a ∷ bs)))
contents_say node [] [] (x ∷ xs) = rw (eqb-self node) (ap (λ (l : List Op). base [] [] l) (append-nil (x ∷ xs)))
contents_say node (f ∷ fs) (a ∷ bs) [] = rw (eqb-self node, eqb-self node) (ap (λ (l : List Op). base l (a ∷ (bs ++ [])) []) (append-nil (f ∷ fs)) ∙ ap (λ (l : List Op). base (f ∷ fs) l []) (append-nil (a ∷ bs)))
contents_say node (f ∷ fs) [] (x ∷ xs) = rw (eqb-self node, eqb-self node) (ap (λ (l : List Op). base l [] (x ∷ (xs ++ []))) (append-nil (f ∷ fs)) ∙ ap (λ (l : List Op). base (f ∷ fs) [] l) (append-nil (x ∷ xs)))
contents_say node [] (a ∷ bs) (x ∷ xs) = rw (eqb-self node, eqb-self node) (ap (λ (l : List Op). base [] l (x ∷ (xs ++ []))) (append-nil (a ∷ bs)) ∙ ap (λ (l : List Op). base [] (a ∷ bs) l) (append-nil (x ∷ xs)))
contents_say node (f ∷ fs) (a ∷ bs) (x ∷ xs) = rw (eqb-self node, eqb-self node, eqb-self node)
    (ap (λ (l : List Op). base l (a ∷ (bs ++ [])) (x ∷ (xs ++ []))) (append-nil (f ∷ fs)) ∙ ap (λ (l : List Op). base (f ∷ fs) l (x ∷ (xs ++ []))) (append-nil (a ∷ bs)) ∙ ap (λ (l : List Op). base (f ∷ fs) (a ∷ bs) l) (append-nil (x ∷ xs)))

-- ---- votes

-- none of these votes is of a transaction and server of those
abbrev none_matches : List Prepared → Prepared → Bool
none_matches votes vote = not (list_any (is_vote_of vote.tid vote.server) votes)

any_append : {A : Type 0} (p : A → Bool) (xs : List A) (y : A) → list_any p xs ≡ false → p y ≡ false → list_any p (xs ++ y ∷ []) ≡ false
any_append p [] y h k = or_from (p y) false k refl
any_append p (x ∷ xs) y h k = let n = or_parts (p x) (list_any p xs) h in or_from (p x) (list_any p (xs ++ y ∷ [])) n.0 (any_append p xs y n.1 k)

pub vote_flip : (v w : Prepared) → is_vote_of v.tid v.server w ≡ is_vote_of w.tid w.server v
vote_flip v w = rw (same_tid-flip w.tid v.tid, flip w.server.0 v.server.0) refl

-- the next vote stands among those before
step_on : (before : List Prepared) (d : Prepared) (ds : List Prepared) → list_any (is_vote_of d.tid d.server) ds ≡ false → list_all (none_matches before) ds ≡ true → list_all (none_matches (before ++ d ∷ [])) ds ≡ true
step_on before d [] h k = refl
step_on before d (e ∷ ds) h k =
    let n = or_parts (is_vote_of d.tid d.server e) (list_any (is_vote_of d.tid d.server) ds) h in
    and_from (none_matches (before ++ d ∷ []) e) (list_all (none_matches (before ++ d ∷ [])) ds)
    (not_from_false _ (any_append (is_vote_of e.tid e.server) before d (not-true _ (and_first (none_matches before e) (list_all (none_matches before) ds) k)) (sym (vote_flip d e) ∙ n.0)))
    (step_on before d ds n.1 (and_last (none_matches before e) (list_all (none_matches before) ds) k))

abbrev with_votes : Recovery → List Prepared → Recovery
with_votes said votes = record said { prepared = votes }

undecided_is : (d : Prepared) → is_undecided d ≡ true → ◌≡◌ {A = Prepared} (record { tid = d.tid; server = d.server; covers = d.covers; changes = d.changes; committed = false }) d
undecided_is d h = ap (λ (b : Bool). record { tid = d.tid; server = d.server; covers = d.covers; changes = d.changes; committed = b }) (sym (not-true d.committed h))

votes_say : (said : Recovery) (before ds : List Prepared) → list_all is_undecided ds ≡ true → are_once ds ≡ true → list_all (none_matches before) ds ≡ true
    → fold found_record (with_votes said before) (map prepare_of ds) ≡ with_votes said (before ++ ds)
votes_say said before [] undone once apart = ap (with_votes said) (sym (append-nil before))
votes_say said before (d ∷ ds) undone once apart =
    ap (λ (l : List Prepared). fold found_record (with_votes said (l ++ record { tid = d.tid; server = d.server; covers = d.covers; changes = d.changes; committed = false } ∷ [])) (map prepare_of ds))
    (all_filtered (is_vote_of d.tid d.server) before (not-true _ (and_first (none_matches before d) (list_all (none_matches before) ds) apart)))
    ∙ ap (λ (v : Prepared). fold found_record (with_votes said (before ++ v ∷ [])) (map prepare_of ds)) (undecided_is d (and_first (is_undecided d) (list_all is_undecided ds) undone))
    ∙ votes_say said (before ++ d ∷ []) ds (and_last (is_undecided d) (list_all is_undecided ds) undone) (and_last (not (list_any (is_vote_of d.tid d.server) ds)) (are_once ds) once)
    (step_on before d ds (not-true _ (and_first (not (list_any (is_vote_of d.tid d.server) ds)) (are_once ds) once)) (and_last (none_matches before d) (list_all (none_matches before) ds) apart))
    ∙ ap (with_votes said) (append_assoc before (d ∷ []) ds)

-- ---- Commits

-- none of the votes is of the Commit's transaction
off_votes : (c : Untold) (ds : List Prepared) → list_all (is_of_none (c ∷ [])) ds ≡ true → list_any (is_of c.tid) ds ≡ false
off_votes c [] h = refl
off_votes c (d ∷ ds) h =
    let mine : (is_untold_of d.tid c || false) ≡ false = not-true _ (and_first (is_of_none (c ∷ []) d) (list_all (is_of_none (c ∷ [])) ds) h) in
    or_from (is_of c.tid d) (list_any (is_of c.tid) ds) (same_tid-flip d.tid c.tid ∙ (or_parts (is_untold_of d.tid c) false mine).0) (off_votes c ds (and_last (is_of_none (c ∷ []) d) (list_all (is_of_none (c ∷ [])) ds) h))

off_server : (tid : Tid) (server : ServerNo) (ds : List Prepared) → list_any (is_of tid) ds ≡ false → list_any (is_vote_of tid server) ds ≡ false
off_server tid server [] h = refl
off_server tid server (d ∷ ds) h =
    let n = or_parts (is_of tid d) (list_any (is_of tid) ds) h in
    or_from (is_vote_of tid server d) (list_any (is_vote_of tid server) ds) (none (same_tid d.tid tid) (d.server.0 == server.0) n.0) (off_server tid server ds n.1)
  where
    none : (a b : Bool) → a ≡ false → (a && b) ≡ false
    none true b h = absurd (cc h)
    none false b h = refl

nothing_at : (tid : Tid) (server : ServerNo) (said : Recovery) → list_any (is_of tid) said.prepared ≡ false → changes_at server tid said ≡ []
nothing_at tid server said h = ap (λ (l : List Prepared). flat_map (λ (vote : Prepared). vote.changes) l) (none_filtered (is_vote_of tid server) said.prepared (off_server tid server said.prepared h))

none_marked : (tid : Tid) (ds : List Prepared) → list_any (is_of tid) ds ≡ false → map (mark_committed tid) ds ≡ ds
none_marked tid [] h = refl
none_marked tid (d ∷ ds) h = let n = or_parts (is_of tid d) (list_any (is_of tid) ds) h in rw n.0 (ap (λ (l : List Prepared). d ∷ l) (none_marked tid ds n.1))

abbrev with_commits : Recovery → List Untold → List Tid → Recovery
with_commits said commits tids = record said { untold = commits; committed = tids }

-- of each vote none of these Commits
split_off : (c : Untold) (cs : List Untold) (ds : List Prepared) → list_all (is_of_none (c ∷ cs)) ds ≡ true → (list_all (is_of_none (c ∷ [])) ds ≡ true) × (list_all (is_of_none cs) ds ≡ true)
split_off c cs [] h = (refl, refl)
split_off c cs (d ∷ ds) h =
    let n = or_parts (is_untold_of d.tid c) (list_any (is_untold_of d.tid) cs) (not-true _ (and_first (is_of_none (c ∷ cs) d) (list_all (is_of_none (c ∷ cs)) ds) h)) in
    let more = split_off c cs ds (and_last (is_of_none (c ∷ cs) d) (list_all (is_of_none (c ∷ cs)) ds) h) in
    (and_from (is_of_none (c ∷ []) d) _ (not_from_false _ (or_from (is_untold_of d.tid c) false n.0 refl)) more.0, and_from (is_of_none cs d) _ (not_from_false _ n.1) more.1)

-- one Commit with a list, of which no vote stands
commit_says : (said : Recovery) (c : Untold) → list_any (is_of c.tid) said.prepared ≡ false → has_list c ≡ true → names_transaction c.tid ≡ true
    → found_record said (commit_of c) ≡ record said { untold = said.untold ++ c ∷ []; committed = said.committed ++ c.tid ∷ [] }
commit_says said c off list named = by c.told refl
  where
    one : (node : NodeNo) (nodes : List NodeNo) → found_record said (records.Commit c.tid (node ∷ nodes)) ≡ record said { untold = said.untold ++ record { tid = c.tid; told = node ∷ nodes } ∷ []; committed = said.committed ++ c.tid ∷ [] }
    one node nodes = rw (nothing_at c.tid files_no said off, nothing_at c.tid audit_no said off, nothing_at c.tid extra_no said off, none_marked c.tid said.prepared off, named, append-nil said.files, append-nil said.audit, append-nil said.extra) refl

    by : (told : List NodeNo) → c.told ≡ told → found_record said (commit_of c) ≡ record said { untold = said.untold ++ c ∷ []; committed = said.committed ++ c.tid ∷ [] }
    by [] is = absurd (let clash : false ≡ true = sym (ap (λ (l : List NodeNo). has_list (record { tid = c.tid; told = l })) is) ∙ list in cc clash)
    by (node ∷ nodes) is = ap (λ (l : List NodeNo). found_record said (records.Commit c.tid l)) is ∙ one node nodes
        ∙ ap (λ (l : List NodeNo). record said { untold = said.untold ++ record { tid = c.tid; told = l } ∷ []; committed = said.committed ++ c.tid ∷ [] }) (sym is)

commits_say : (said : Recovery) (cs : List Untold) → list_all (is_of_none cs) said.prepared ≡ true → list_all has_list cs ≡ true → list_all is_numbered cs ≡ true
    → fold found_record said (map commit_of cs) ≡ with_commits said (said.untold ++ cs) (said.committed ++ map tid_of cs)
commits_say said [] apart lists named = ap (λ (l : List Untold). with_commits said l said.committed) (sym (append-nil said.untold)) ∙ ap (λ (l : List Tid). with_commits said (said.untold ++ []) l) (sym (append-nil said.committed))
commits_say said (c ∷ cs) apart lists named =
    let parts = split_off c cs said.prepared apart in
    let next : Recovery = record said { untold = said.untold ++ c ∷ []; committed = said.committed ++ c.tid ∷ [] } in
    ap (λ (s : Recovery). fold found_record s (map commit_of cs)) (commit_says said c (off_votes c said.prepared parts.0) (and_first (has_list c) (list_all has_list cs) lists) (and_first (is_numbered c) _ named))
    ∙ commits_say next cs parts.1 (and_last (has_list c) (list_all has_list cs) lists) (and_last (is_numbered c) _ named)
    ∙ ap (λ (l : List Untold). with_commits said l ((said.committed ++ c.tid ∷ []) ++ map tid_of cs)) (append_assoc said.untold (c ∷ []) cs)
    ∙ ap (λ (l : List Tid). with_commits said (said.untold ++ c ∷ cs) l) (append_assoc said.committed (c.tid ∷ []) (map tid_of cs))

-- ---- all of it

all_undecided : (votes : List Prepared) → list_all is_undecided (filter is_undecided votes) ≡ true
all_undecided [] = refl
all_undecided (v ∷ votes) = by (is_undecided v) refl (all_undecided votes)
  where
    by : (b : Bool) → is_undecided v ≡ b → list_all is_undecided (filter is_undecided votes) ≡ true → list_all is_undecided (filter is_undecided (v ∷ votes)) ≡ true
    by true is more = rw (is, is) more
    by false is more = rw is more

none_before : (ds : List Prepared) → list_all (none_matches []) ds ≡ true
none_before [] = refl
none_before (d ∷ ds) = none_before ds

pub state_says : (node : ℕ) (files audit extra : List Op) (said : Recovery) → MayTake said → recovery (state node files audit extra said) ≡ state_said files audit extra said
state_says node files audit extra said may =
    fold-append found_record nothing_said (contents_of (state_tid node) files audit extra) (undecided_of said ++ listed_of said)
    ∙ ap (λ (s : Recovery). fold found_record s (undecided_of said ++ listed_of said)) (contents_say node files audit extra)
    ∙ fold-append found_record (base files audit extra) (undecided_of said) (listed_of said)
    ∙ ap (λ (s : Recovery). fold found_record s (listed_of said)) (votes_say (base files audit extra) [] (filter is_undecided said.prepared) (all_undecided said.prepared) may.once (none_before (filter is_undecided said.prepared)))
    ∙ commits_say (with_votes (base files audit extra) (filter is_undecided said.prepared)) said.untold may.apart may.listed may.numbered
