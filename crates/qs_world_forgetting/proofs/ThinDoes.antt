-- A restart that finds nothing of what is over does what one does that finds all, the votes that are new being on record.
use Rattle.std.proofs.Common.{◌≡◌, ◌∙◌, ℕ, Bool, true, false, List, [], ◌∷◌, ◌++◌, refl, sym, ap, fold, Option, Some, None}
use Rattle.std.specs.Prelude.{not, ◌&&◌, ◌||◌, ◌==◌, is_some, slice_get, if◌then◌else◌}
use Rattle.std.specs.List.{filter, list_any, list_all, flat_map}
use Rattle.std.specs.BTreeMap.{is_at}
use Rattle.std.proofs.lemmas.Bool.{not-true, or_from}
use Rattle.qs_base.specs.Order.{same_tid, tid_cmp}
use Rattle.qs_base.specs.declared.identifiers.Outcome.TheVariants as outcomes
use Rattle.qs_base.specs.declared.identifiers.Tid.{Tid}
use Rattle.qs_base.proofs.Same.{same_tid-true}
use Rattle.qs_ops.specs.Servers.{files_no, audit_no, extra_no}
use Rattle.qs_ops.specs.declared.answer.Cause.TheVariants as causes
use Rattle.qs_ops.specs.declared.share.KeptChanges.{KeptChanges}
use Rattle.qs_book_journal.specs.declared.entry.Found.{Found}
use Rattle.qs_book_machine.specs.Restart.{member_at, is_among, is_found_as, record_at, changes_at, keep_found, has_record, add_commit, commits_found, reopened, without_records, reopened_node, is_found, found_only, restarted_node, learn_found, is_open_here, decide_found, commit_found, count_of, vote_found, begun_tid, abort_begun, up_to, begun_at, restart_found}
use Rattle.qs_book_machine.specs.Transaction.{TransactionValue, is_open, with_learnt, found_at, decided_at}
use Rattle.qs_book_machine.specs.Book.{BookValue, find_transaction, with_node, with_transaction, decide, crossed_in, inc_at}
use Rattle.qs_book_machine.specs.Nodes.{NodeValue, without_record, record_of, voter, voter_cmp}
use Rattle.qs_book_machine.specs.declared.state.Reopened.{Reopened}
use Rattle.qs_book_machine.specs.declared.state.OnRecord.{OnRecord}
use Rattle.qs_book_machine.specs.declared.state.Voter.{Voter}
use Rattle.qs_book_laws.proofs.Maps.{removed_none}
use Rattle.qs_restart_state.proofs.Lists.{any_filtered}
use Rattle.qs_world_forgetting.proofs.Keyed.{absent_removed, all_removed, changed_keeps, changed_same, filter_alike, fold_nodes}

module _ (here : ℕ) (b : BookValue) (over : Tid → Bool) (pend : List Found) (done fewer : List Tid)
    (same : filter (λ (t : Tid). not (over t)) fewer ≡ filter (λ (t : Tid). not (over t)) done)
    (all : (t : Tid) → over t ≡ true → is_among done t ≡ true)
    (none : (n : NodeValue) (t : Tid) (s : ℕ) → slice_get b.nodes here ≡ Some n → over t ≡ true → record_of n t s ≡ None)
    (nobody : (n : NodeValue) → slice_get b.nodes here ≡ Some n → list_all (λ (entry : Voter × OnRecord). not (over entry.0.tid)) n.records ≡ true)
    (closed : (t : Tid) → over t ≡ true → is_open_here here t (find_transaction b t) ≡ false) where
  abbrev rest : List Found
  rest = filter (λ (f : Found). not (over f.tid)) pend

  off_over : (t u : Tid) → over t ≡ false → over u ≡ true → same_tid t u ≡ false
  off_over t u off on = by (same_tid t u) refl
    where
      by : (c : Bool) → same_tid t u ≡ c → c ≡ false
      by false is = refl
      by true is = absurd (let clash : false ≡ true = sym off ∙ (ap over (same_tid-true t u is) ∙ on) in cc clash)

  among_still : (t : Tid) → over t ≡ false → is_among fewer t ≡ is_among done t
  among_still t off = sym (any_filtered (same_tid t) over fewer (λ u on. off_over t u off on)) ∙ (ap (list_any (same_tid t)) same ∙ any_filtered (same_tid t) over done (λ u on. off_over t u off on))

  -- a fold in which what is over does nothing
  fold_rest : {B : Type 0} (f : B → Tid → B) (I : B → Type 0) → ((x : B) (t : Tid) → I x → I (f x t)) → ((x : B) (t : Tid) → I x → over t ≡ true → f x t ≡ x) → (tids : List Tid) (x : B) → I x → fold f x (filter (λ (t : Tid). not (over t)) tids) ≡ fold f x tids
  fold_rest f I keeps skips [] x i = refl
  fold_rest {B = B} f I keeps skips (t ∷ tids) x i = by (over t) refl (fold_rest f I keeps skips tids)
    where
      skip : over t ≡ true → filter (λ (u : Tid). not (over u)) (t ∷ tids) ≡ filter (λ (u : Tid). not (over u)) tids
      skip is = rw is refl

      take : over t ≡ false → filter (λ (u : Tid). not (over u)) (t ∷ tids) ≡ t ∷ filter (λ (u : Tid). not (over u)) tids
      take is = rw is refl

      by : (c : Bool) → over t ≡ c → ((y : B) → I y → fold f y (filter (λ (u : Tid). not (over u)) tids) ≡ fold f y tids) → fold f x (filter (λ (u : Tid). not (over u)) (t ∷ tids)) ≡ fold f x (t ∷ tids)
      by true is more = ap (fold f x) (skip is) ∙ more x i ∙ ap (λ (y : B). fold f y tids) (sym (skips x t i is))
      by false is more = ap (fold f x) (take is) ∙ more (f x t) (keeps x t i)

  fold_both : {B : Type 0} (f : B → Tid → B) (I : B → Type 0) → ((x : B) (t : Tid) → I x → I (f x t)) → ((x : B) (t : Tid) → I x → over t ≡ true → f x t ≡ x) → (x : B) → I x → fold f x fewer ≡ fold f x done
  fold_both f I keeps skips x i = sym (fold_rest f I keeps skips fewer x i) ∙ (ap (fold f x) same ∙ fold_rest f I keeps skips done x i)

  -- nothing is on record of it
  unrecorded : (t : Tid) (s : ℕ) → over t ≡ true → (v : BookValue) → v.nodes ≡ b.nodes → record_at here v t s ≡ None
  unrecorded t s on v nodes = ap (λ (l : List NodeValue). elim (slice_get l here) [ None ↦ None | Some node ↦ record_of node t s ]) nodes ∙ by (slice_get b.nodes here) refl
    where
      by : (o : Option NodeValue) → slice_get b.nodes here ≡ o → ◌≡◌ {A = Option OnRecord} (elim o [ None ↦ None | Some node ↦ record_of node t s ]) None
      by None is = refl
      by (Some n) is = none n t s is on

  -- ---- contents, and votes that are kept

  has_none : (t : Tid) → over t ≡ true → has_record here b t ≡ false
  has_none t on = or_from (is_some (record_at here b t files_no)) (is_some (record_at here b t audit_no)) (ap is_some (unrecorded t files_no on b refl)) (ap is_some (unrecorded t audit_no on b refl))

  abbrev Any : List Tid → Type 0
  Any tids = tids ≡ tids

  commits_same : commits_found here b fewer ≡ commits_found here b done
  commits_same = fold_both (add_commit here b) Any (λ x t i. refl) (λ x t i on. skip x t (has_none t on)) [] refl
    where
      skip : (x : List Tid) (t : Tid) → has_record here b t ≡ false → add_commit here b x t ≡ x
      skip x t is = ap (λ (c : Bool). if c && not (is_among x t) then x ++ t ∷ [] else x) is

  no_keep : (server : ℕ) (f : Found) → over f.tid ≡ true → keep_found here b server done f ≡ []
  no_keep server f on = ap (λ (c : Bool). if (f.server.0 == server) && not (c || crossed_in (find_transaction b f.tid) (member_at here server)) then record { tid = f.tid; changes = changes_at here b server f.tid } ∷ [] else []) (all f.tid on)
      ∙ by (f.server.0 == server)
    where
      by : (c : Bool) → ◌≡◌ {A = List KeptChanges} (if c && false then record { tid = f.tid; changes = changes_at here b server f.tid } ∷ [] else []) []
      by true = refl
      by false = refl

  keep_still : (server : ℕ) (f : Found) → over f.tid ≡ false → keep_found here b server fewer f ≡ keep_found here b server done f
  keep_still server f off = ap (λ (c : Bool). if (f.server.0 == server) && not (c || crossed_in (find_transaction b f.tid) (member_at here server)) then record { tid = f.tid; changes = changes_at here b server f.tid } ∷ [] else []) (among_still f.tid off)

  kept_still : (server : ℕ) (founds : List Found) → flat_map (keep_found here b server fewer) (filter (λ (f : Found). not (over f.tid)) founds) ≡ flat_map (keep_found here b server done) founds
  kept_still server [] = refl
  kept_still server (f ∷ founds) = by (over f.tid) refl (kept_still server founds)
    where
      skip : over f.tid ≡ true → filter (λ (g : Found). not (over g.tid)) (f ∷ founds) ≡ filter (λ (g : Found). not (over g.tid)) founds
      skip is = rw is refl

      take : over f.tid ≡ false → filter (λ (g : Found). not (over g.tid)) (f ∷ founds) ≡ f ∷ filter (λ (g : Found). not (over g.tid)) founds
      take is = rw is refl

      by : (c : Bool) → over f.tid ≡ c → flat_map (keep_found here b server fewer) (filter (λ (g : Found). not (over g.tid)) founds) ≡ flat_map (keep_found here b server done) founds
          → flat_map (keep_found here b server fewer) (filter (λ (g : Found). not (over g.tid)) (f ∷ founds)) ≡ flat_map (keep_found here b server done) (f ∷ founds)
      by true is more = ap (flat_map (keep_found here b server fewer)) (skip is) ∙ more ∙ sym (ap (λ (l : List KeptChanges). l ++ flat_map (keep_found here b server done) founds) (no_keep server f is))
      by false is more = ap (flat_map (keep_found here b server fewer)) (take is) ∙ ap (λ (l : List KeptChanges). l ++ flat_map (keep_found here b server fewer) (filter (λ (g : Found). not (over g.tid)) founds)) (keep_still server f is) ∙ ap (λ (l : List KeptChanges). keep_found here b server done f ++ l) more

  reopened_same : (inc : ℕ) → reopened here inc rest fewer b ≡ reopened here inc pend done b
  reopened_same inc =
      ap (λ (tids : List Tid). record { inc = inc; files = flat_map (changes_at here b files_no) tids; files_kept = flat_map (keep_found here b files_no fewer) rest; audit = flat_map (changes_at here b audit_no) tids; audit_kept = flat_map (keep_found here b audit_no fewer) rest }) commits_same
      ∙ ap (λ (l : List KeptChanges). record { inc = inc; files = flat_map (changes_at here b files_no) (commits_found here b done); files_kept = l; audit = flat_map (changes_at here b audit_no) (commits_found here b done); audit_kept = flat_map (keep_found here b audit_no fewer) rest }) (kept_still files_no pend)
      ∙ ap (λ (l : List KeptChanges). record { inc = inc; files = flat_map (changes_at here b files_no) (commits_found here b done); files_kept = flat_map (keep_found here b files_no done) pend; audit = flat_map (changes_at here b audit_no) (commits_found here b done); audit_kept = l }) (kept_still audit_no pend)

  -- ---- Commits that are found

  pub record IsClosed (v : BookValue) : Type 0 where
    pub nodes : v.nodes ≡ b.nodes
    pub shut : (t : Tid) → over t ≡ true → is_open_here here t (find_transaction v t) ≡ false

  stays_shut : (u : Tid) (f : TransactionValue → TransactionValue) → ((tx : TransactionValue) → is_open (f tx).cell ≡ true → is_open tx.cell ≡ true) → (tx : TransactionValue) → is_open_here here u (Some tx) ≡ false → is_open_here here u (Some (f tx)) ≡ false
  stays_shut u f h tx so = by (u.home.0 == here) (is_open tx.cell) (is_open (f tx).cell) (h tx) so
    where
      by : (a c d : Bool) → (d ≡ true → c ≡ true) → (a && c) ≡ false → (a && d) ≡ false
      by false c d k e = refl
      by true c false k e = refl
      by true c true k e = absurd (let clash : true ≡ false = sym (k refl) ∙ e in cc clash)

  learns_closed : (t : Tid) (server : ℕ) (v : BookValue) → IsClosed v → IsClosed (learn_found here t server v)
  learns_closed t server v i = by (is_some (record_at here v t server))
    where
      by : (c : Bool) → IsClosed (if c then with_transaction t (with_learnt (member_at here server)) v else v)
      by false = i
      by true = record {
        nodes = i.nodes;
        shut = λ u on. changed_keeps (is_at (tid_cmp u)) (is_at (tid_cmp t)) (is_open_here here u) (with_learnt (member_at here server)) (stays_shut u (with_learnt (member_at here server)) (λ tx e. e)) v.transactions (i.shut u on);
      }

  decides_closed : (t : Tid) (v : BookValue) → IsClosed v → IsClosed (decide_found here t v)
  decides_closed t v i = by (is_open_here here t (find_transaction v t))
    where
      by : (c : Bool) → IsClosed (if c then decide t outcomes.Commit None v else v)
      by false = i
      by true = record {
        nodes = i.nodes;
        shut = λ u on. changed_keeps (is_at (tid_cmp u)) (is_at (tid_cmp t)) (is_open_here here u) (decided_at v.place outcomes.Commit None) (stays_shut u (decided_at v.place outcomes.Commit None) (λ tx e. absurd (cc e))) v.transactions (i.shut u on);
      }

  commits_closed : (v : BookValue) (t : Tid) → IsClosed v → IsClosed (commit_found here v t)
  commits_closed v t i = decides_closed t (learn_found here t extra_no (learn_found here t audit_no (learn_found here t files_no v)))
      (learns_closed t extra_no (learn_found here t audit_no (learn_found here t files_no v)) (learns_closed t audit_no (learn_found here t files_no v) (learns_closed t files_no v i)))

  learns_nothing : (t : Tid) (server : ℕ) (v : BookValue) → IsClosed v → over t ≡ true → learn_found here t server v ≡ v
  learns_nothing t server v i on = ap (λ (o : Option OnRecord). if is_some o then with_transaction t (with_learnt (member_at here server)) v else v) (unrecorded t server on v i.nodes)

  commits_nothing : (v : BookValue) (t : Tid) → IsClosed v → over t ≡ true → commit_found here v t ≡ v
  commits_nothing v t i on =
      ap (λ (w : BookValue). decide_found here t (learn_found here t extra_no (learn_found here t audit_no w))) (learns_nothing t files_no v i on)
      ∙ ap (λ (w : BookValue). decide_found here t (learn_found here t extra_no w)) (learns_nothing t audit_no v i on)
      ∙ ap (decide_found here t) (learns_nothing t extra_no v i on)
      ∙ ap (λ (c : Bool). if c then decide t outcomes.Commit None v else v) (i.shut t on)

  found_same_commits : fold (commit_found here) b fewer ≡ fold (commit_found here) b done
  found_same_commits = fold_both (commit_found here) IsClosed commits_closed commits_nothing b (record { nodes = refl; shut = closed })

  -- ---- votes that are found

  votes_same : (inc : ℕ) (founds : List Found) (v : BookValue) → fold (vote_found here inc fewer) v (filter (λ (f : Found). not (over f.tid)) founds) ≡ fold (vote_found here inc done) v founds
  votes_same inc [] v = refl
  votes_same inc (f ∷ founds) v = by (over f.tid) refl (votes_same inc founds)
    where
      skip : over f.tid ≡ true → filter (λ (g : Found). not (over g.tid)) (f ∷ founds) ≡ filter (λ (g : Found). not (over g.tid)) founds
      skip is = rw is refl

      take : over f.tid ≡ false → filter (λ (g : Found). not (over g.tid)) (f ∷ founds) ≡ f ∷ filter (λ (g : Found). not (over g.tid)) founds
      take is = rw is refl

      by : (c : Bool) → over f.tid ≡ c → ((w : BookValue) → fold (vote_found here inc fewer) w (filter (λ (g : Found). not (over g.tid)) founds) ≡ fold (vote_found here inc done) w founds)
          → fold (vote_found here inc fewer) v (filter (λ (g : Found). not (over g.tid)) (f ∷ founds)) ≡ fold (vote_found here inc done) v (f ∷ founds)
      by true is more = ap (fold (vote_found here inc fewer) v) (skip is) ∙ more v ∙ sym (ap (λ (c : Bool). fold (vote_found here inc done) (if c then v else with_transaction f.tid (found_at (member_at here f.server.0) inc f.covers (count_of (record_at here v f.tid f.server.0))) v) founds) (all f.tid is))
      by false is more = ap (fold (vote_found here inc fewer) v) (take is)
          ∙ ap (λ (c : Bool). fold (vote_found here inc fewer) (if c then v else with_transaction f.tid (found_at (member_at here f.server.0) inc f.covers (count_of (record_at here v f.tid f.server.0))) v) (filter (λ (g : Found). not (over g.tid)) founds)) (among_still f.tid is)
          ∙ more (vote_found here inc done v f)

  -- ---- what is on record

  abbrev IsBare : NodeValue → Type 0
  IsBare n = (t : Tid) (s : ℕ) → over t ≡ true → record_of n t s ≡ None

  bare_on : (n : NodeValue) (t : Tid) → IsBare n → IsBare (without_records n t)
  bare_on n t i u s on = removed_none (is_at (voter_cmp (voter t extra_no))) (is_at (voter_cmp (voter u s))) _ (removed_none (is_at (voter_cmp (voter t audit_no))) (is_at (voter_cmp (voter u s))) _ (removed_none (is_at (voter_cmp (voter t files_no))) (is_at (voter_cmp (voter u s))) n.records (i u s on)))

  bare_same : (n : NodeValue) (t : Tid) → IsBare n → over t ≡ true → without_records n t ≡ n
  bare_same n t i on =
      ap (λ (l : List (Voter × OnRecord)). without_record t extra_no (without_record t audit_no (record n { records = l }))) (absent_removed (is_at (voter_cmp (voter t files_no))) n.records (i t files_no on))
      ∙ ap (λ (l : List (Voter × OnRecord)). without_record t extra_no (record n { records = l })) (absent_removed (is_at (voter_cmp (voter t audit_no))) n.records (i t audit_no on))
      ∙ ap (λ (l : List (Voter × OnRecord)). record n { records = l }) (absent_removed (is_at (voter_cmp (voter t extra_no))) n.records (i t extra_no on))

  nobody_on : (tids : List Tid) (n : NodeValue) → list_all (λ (entry : Voter × OnRecord). not (over entry.0.tid)) n.records ≡ true → list_all (λ (entry : Voter × OnRecord). not (over entry.0.tid)) (fold without_records n tids).records ≡ true
  nobody_on [] n h = h
  nobody_on (t ∷ tids) n h = nobody_on tids (without_records n t) (all_removed (λ (entry : Voter × OnRecord). not (over entry.0.tid)) (is_at (voter_cmp (voter t extra_no))) _
      (all_removed (λ (entry : Voter × OnRecord). not (over entry.0.tid)) (is_at (voter_cmp (voter t audit_no))) _ (all_removed (λ (entry : Voter × OnRecord). not (over entry.0.tid)) (is_at (voter_cmp (voter t files_no))) n.records h)))

  found_still : (at : Voter) → over at.tid ≡ false → is_found rest at ≡ is_found pend at
  found_still at off = any_filtered (is_found_as at 0) (λ (f : Found). over f.tid) pend (λ f on. none_and (same_tid f.tid at.tid) _ (flipped f on))
    where
      none_and : (a c : Bool) → a ≡ false → (a && c) ≡ false
      none_and true c e = absurd (cc e)
      none_and false c e = refl

      flipped : (f : Found) → over f.tid ≡ true → same_tid f.tid at.tid ≡ false
      flipped f on = by (same_tid f.tid at.tid) refl
        where
          by : (c : Bool) → same_tid f.tid at.tid ≡ c → c ≡ false
          by false is = refl
          by true is = absurd (let clash : true ≡ false = sym on ∙ (ap over (same_tid-true f.tid at.tid is) ∙ off) in cc clash)

  node_same : (left : Reopened) (n : NodeValue) → slice_get b.nodes here ≡ Some n → restarted_node left rest fewer n ≡ restarted_node left pend done n
  node_same left n there =
      ap (λ (m : NodeValue). reopened_node left (found_only rest m)) (fold_both without_records IsBare bare_on bare_same n (λ t s on. none n t s there on))
      ∙ ap (λ (l : List (Voter × OnRecord)). reopened_node left (record (fold without_records n done) { records = l }))
      (filter_alike (λ (entry : Voter × OnRecord). is_found rest entry.0) (λ (entry : Voter × OnRecord). is_found pend entry.0) (λ (entry : Voter × OnRecord). not (over entry.0.tid)) (fold without_records n done).records (λ entry off. found_still entry.0 (not-true _ off)) (nobody_on done n (nobody n there)))

  -- ---- all of it

  commit_nodes : (v : BookValue) (t : Tid) → (commit_found here v t).nodes ≡ v.nodes
  commit_nodes v t = last (learn_found here t extra_no (learn_found here t audit_no (learn_found here t files_no v))) ∙ (learn extra_no (learn_found here t audit_no (learn_found here t files_no v)) ∙ (learn audit_no (learn_found here t files_no v) ∙ learn files_no v))
    where
      learn : (s : ℕ) (w : BookValue) → (learn_found here t s w).nodes ≡ w.nodes
      learn s w = by (is_some (record_at here w t s))
        where
          by : (c : Bool) → ◌≡◌ {A = List NodeValue} (if c then with_transaction t (with_learnt (member_at here s)) w else w).nodes w.nodes
          by true = refl
          by false = refl

      last : (w : BookValue) → (decide_found here t w).nodes ≡ w.nodes
      last w = by (is_open_here here t (find_transaction w t))
        where
          by : (c : Bool) → ◌≡◌ {A = List NodeValue} (if c then decide t outcomes.Commit None w else w).nodes w.nodes
          by true = refl
          by false = refl

  vote_nodes : (inc : ℕ) (v : BookValue) (f : Found) → (vote_found here inc done v f).nodes ≡ v.nodes
  vote_nodes inc v f = by (is_among done f.tid)
    where
      by : (c : Bool) → ◌≡◌ {A = List NodeValue} (if c then v else with_transaction f.tid (found_at (member_at here f.server.0) inc f.covers (count_of (record_at here v f.tid f.server.0))) v).nodes v.nodes
      by true = refl
      by false = refl

  abort_nodes : (inc : ℕ) (v : BookValue) (seq : ℕ) → (abort_begun here inc v seq).nodes ≡ v.nodes
  abort_nodes inc v seq = by (is_open_here here (begun_tid here inc seq) (find_transaction v (begun_tid here inc seq)))
    where
      by : (c : Bool) → ◌≡◌ {A = List NodeValue} (if c then decide (begun_tid here inc seq) outcomes.Abort (Some (causes.Home inc)) v else v).nodes v.nodes
      by true = refl
      by false = refl

  -- the votes that are new being on record: a restart that finds less does the same
  pub thin_does : (inc : ℕ) → restart_found here inc rest fewer b ≡ restart_found here inc pend done b
  thin_does inc =
      let old : ℕ = inc_at b (record { 0 = here }) in
      let begun : List ℕ = up_to (begun_at here b) in
      let all_found : BookValue = fold (vote_found here inc done) (fold (commit_found here) b done) pend in
      let last : BookValue = fold (abort_begun here old) all_found begun in
      let last_nodes : last.nodes ≡ b.nodes = fold_nodes (abort_begun here old) (abort_nodes old) begun all_found ∙ (fold_nodes (vote_found here inc done) (vote_nodes inc) pend (fold (commit_found here) b done) ∙ fold_nodes (commit_found here) commit_nodes done b) in
      ap (λ (v : BookValue). with_node here (restarted_node (reopened here inc rest fewer b) rest fewer) (fold (abort_begun here old) (fold (vote_found here inc fewer) v rest) begun)) found_same_commits
      ∙ ap (λ (v : BookValue). with_node here (restarted_node (reopened here inc rest fewer b) rest fewer) (fold (abort_begun here old) v begun)) (votes_same inc pend (fold (commit_found here) b done))
      ∙ ap (λ (r : Reopened). with_node here (restarted_node r rest fewer) last) (reopened_same inc)
      ∙ ap (λ (l : List NodeValue). record last { nodes = l }) (changed_same here (restarted_node (reopened here inc pend done b) rest fewer) (restarted_node (reopened here inc pend done b) pend done) last.nodes (λ n there. node_same (reopened here inc pend done b) n (ap (λ (l : List NodeValue). slice_get l here) (sym last_nodes) ∙ there)))
