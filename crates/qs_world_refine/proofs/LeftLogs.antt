-- What the logs of an opening say of a transaction: they stand together.
use Rattle.qs_world_refine.proofs.Words.{◌≡◌, ◌⊎◌, inl, inr, ℕ, ◌<◌, ◌==◌, ◌&&◌, ◌||◌, not, nat_lt, Bool, true, false, List, [], ◌∷◌, ◌++◌, fold, refl, sym, ap, subst, ◌∙◌, arith, if◌then◌else◌, filter, flat_map, list_all, list_any, eqb-true, not-true, or_left, or_right, nat_tests, list_any-append, same_tid, NodeNo, Tid, same_node, is_recoverable, Record, Prepared, Untold, Recovery, nothing_said, recovery, found_record, names_transaction, is_untold_of, with_list, IsOpening, is_record, is_earlier}
use Rattle.qs_world_refine.proofs.Words.{is_committed_at_home, is_list, is_in_run, is_untold, are_unended, Opening, each_is, fits_record, names_node, node_no, list_of, has_doubt, may_take_up, is_steady_record, never_not}
use Rattle.qs_record.specs.declared.record.Record.TheVariants as records
use Rattle.qs_restart.specs.Recovery.{is_of}
use Rattle.qs_world.specs.Openings.{is_commit_of, names_it, is_still_told, is_open_vote, is_doubt, has_node}
use Rattle.qs_world_refine.proofs.Doubts.{is_doubt_of}
use Rattle.qs_world_refine.proofs.SaidTidy.{IsSaidTidy, log_tidy, takes_up}
use Rattle.qs_world_refine.proofs.SoundBegin.{all_implied}
use Rattle.qs_world_refine.proofs.SoundKnown.{same_is}
use Rattle.qs_world_refine.proofs.SoundParts.{and_both, both_and}

turned : (t u : Tid) → same_tid t u ≡ true → same_tid u t ≡ true
turned t u is = grind (arith, nat_tests, is)

any_left : {A : Type 0} (p q : A → Bool) (xs : List A) → list_any p (filter q xs) ≡ true → list_any p xs ≡ true
any_left p q [] is = is
any_left p q (a ∷ xs) is = by (q a) is (any_left p q xs)
  where
    by : (b : Bool) → list_any p (if b then a ∷ filter q xs else filter q xs) ≡ true → (list_any p (filter q xs) ≡ true → list_any p xs ≡ true) → (p a || list_any p xs) ≡ true
    by true is more = at (p a) (list_any p (filter q xs)) is more
      where
        at : (b c : Bool) → (b || c) ≡ true → (c ≡ true → list_any p xs ≡ true) → (b || list_any p xs) ≡ true
        at true c is more = refl
        at false c is more = more is
    by false is more = or_right (p a) (list_any p xs) (more is)

-- ---- one log

module _ (tid : Tid) where
  -- what waits for its End is a Commit of the log
  abbrev Logged : Recovery → Type 0
  Logged said = list_any (is_untold_of tid) said.untold ≡ true → list_any (same_tid tid) said.committed ≡ true

  named_now : (u : Tid) → names_transaction u ≡ true → same_tid tid u ≡ true → list_any (same_tid tid) (if names_transaction u then u ∷ [] else []) ≡ true
  named_now u names same = picked (names_transaction u) names
    where
      picked : (b : Bool) → b ≡ true → list_any (same_tid tid) (if b then u ∷ [] else []) ≡ true
      picked b is = rw (is, same) refl

  commit_logged : (names : names_transaction tid ≡ true) (u : Tid) (told : List NodeNo) (said : Recovery) (more : Recovery) → more.untold ≡ said.untold → more.committed ≡ said.committed ++ (if names_transaction u then u ∷ [] else []) → Logged said → Logged (with_list u told more)
  commit_logged names u [] said more untold committed is has = ap (list_any (same_tid tid)) committed ∙ (list_any-append (same_tid tid) said.committed _
      ∙ or_left _ _ (is (subst (λ (l : List Untold). list_any (is_untold_of tid) l ≡ true) untold (any_left (is_untold_of tid) (λ commit. not (is_untold_of u commit)) more.untold has))))
  commit_logged names u (first ∷ others) said more untold committed is has = ap (list_any (same_tid tid)) committed ∙ (list_any-append (same_tid tid) said.committed _
      ∙ which (list_any (is_untold_of tid) said.untold) (is_untold_of tid (record { tid = u; told = first ∷ others })) refl refl
      (sym (list_any-append (is_untold_of tid) said.untold (record { tid = u; told = first ∷ others } ∷ [])) ∙ subst (λ (l : List Untold). list_any (is_untold_of tid) (l ++ record { tid = u; told = first ∷ others } ∷ []) ≡ true) untold has))
    where
      which : (a b : Bool) → list_any (is_untold_of tid) said.untold ≡ a → is_untold_of tid (record { tid = u; told = first ∷ others }) ≡ b → (a || (b || false)) ≡ true → (list_any (same_tid tid) said.committed || list_any (same_tid tid) (if names_transaction u then u ∷ [] else [])) ≡ true
      which true b old new so = or_left _ _ (is old)
      which false true old new so = or_right (list_any (same_tid tid) said.committed) _ (named_now u (subst (λ (k : Tid). names_transaction k ≡ true) (sym (same_is u tid new)) names) (turned u tid new))
      which false false old new so = absurd (cc (so))

  record_logged : names_transaction tid ≡ true → (rec : Record) (said : Recovery) → Logged said → Logged (found_record said rec)
  record_logged names (records.Prepare u server covers changes) said is = is
  record_logged names (records.Commit u told) said is = commit_logged names u told said _ refl refl is
  record_logged names (records.Aborted u) said is = λ has. is (any_left (is_untold_of tid) (λ commit. not (is_untold_of u commit)) said.untold has)
  record_logged names (records.End u) said is = λ has. is (any_left (is_untold_of tid) (λ commit. not (is_untold_of u commit)) said.untold has)

  fold_logged : names_transaction tid ≡ true → (log : List Record) (said : Recovery) → Logged said → Logged (fold found_record said log)
  fold_logged names [] said is = is
  fold_logged names (rec ∷ log) said is = fold_logged names log (found_record said rec) (record_logged names rec said is)

  pub untold_logged : names_transaction tid ≡ true → (log : List Record) → Logged (recovery log)
  untold_logged names log = fold_logged names log nothing_said (λ none. absurd (cc (none)))

  -- and a Commit of the log is a record of it
  commits_of : (u : Tid) (told : List NodeNo) (said : Recovery) → (with_list u told said).committed ≡ said.committed
  commits_of u [] said = refl
  commits_of u (first ∷ others) said = refl

  record_commits : (rec : Record) (said : Recovery) → list_any (same_tid tid) (found_record said rec).committed ≡ true → (list_any (same_tid tid) said.committed ≡ true) ⊎ (is_commit_of tid rec ≡ true)
  record_commits (records.Prepare u server covers changes) said has = inl has
  record_commits (records.Commit u told) said has = which (list_any (same_tid tid) said.committed) (names_transaction u) refl
      (sym (list_any-append (same_tid tid) said.committed (if names_transaction u then u ∷ [] else [])) ∙ subst (λ (l : List Tid). list_any (same_tid tid) l ≡ true) (commits_of u told _) has)
    where
      which : (a b : Bool) → list_any (same_tid tid) said.committed ≡ a → (a || list_any (same_tid tid) (if b then u ∷ [] else [])) ≡ true → (list_any (same_tid tid) said.committed ≡ true) ⊎ (same_tid tid u ≡ true)
      which true b old so = inl old
      which false true old so = inr (alone (same_tid tid u) so)
        where
          alone : (c : Bool) → (c || false) ≡ true → c ≡ true
          alone true is = refl
          alone false is = is
      which false false old so = absurd (cc (so))
  record_commits (records.Aborted u) said has = inl has
  record_commits (records.End u) said has = inl has

  fold_commits : (log : List Record) (said : Recovery) → list_any (same_tid tid) (fold found_record said log).committed ≡ true → (list_any (same_tid tid) said.committed ≡ true) ⊎ (list_any (is_commit_of tid) log ≡ true)
  fold_commits [] said has = inl has
  fold_commits (rec ∷ log) said has = by (fold_commits log (found_record said rec) has)
    where
      first : (list_any (same_tid tid) said.committed ≡ true) ⊎ (is_commit_of tid rec ≡ true) → (list_any (same_tid tid) said.committed ≡ true) ⊎ (list_any (is_commit_of tid) (rec ∷ log) ≡ true)
      first (inl before) = inl before
      first (inr its) = inr (or_left _ _ its)

      by : (list_any (same_tid tid) (found_record said rec).committed ≡ true) ⊎ (list_any (is_commit_of tid) log ≡ true) → (list_any (same_tid tid) said.committed ≡ true) ⊎ (list_any (is_commit_of tid) (rec ∷ log) ≡ true)
      by (inl found) = first (record_commits rec said found)
      by (inr later) = inr (or_right (is_commit_of tid rec) _ later)

  pub commits_are_records : (log : List Record) → list_any (same_tid tid) (recovery log).committed ≡ true → list_any (is_commit_of tid) log ≡ true
  commits_are_records log has = by (fold_commits log nothing_said has)
    where
      by : (list_any (same_tid tid) nothing_said.committed ≡ true) ⊎ (list_any (is_commit_of tid) log ≡ true) → list_any (is_commit_of tid) log ≡ true
      by (inl none) = absurd (cc (none))
      by (inr is) = is

  -- a vote in doubt passes what each vote passes
  vote_of : (p : Prepared → Bool) (votes : List Prepared) → list_all p votes ≡ true → list_any (is_doubt_of tid) votes ≡ true → (vote : Prepared) × ((p vote ≡ true) × ((vote.tid ≡ tid) × (vote.committed ≡ false)))
  vote_of p [] all has = absurd (cc (has))
  vote_of p (v ∷ votes) all has = by (is_doubt_of tid v) refl (vote_of p votes both.1) has
    where
      both : (p v ≡ true) × (list_all p votes ≡ true)
      both = and_both (p v) (list_all p votes) all

      by : (b : Bool) → is_doubt_of tid v ≡ b → (list_any (is_doubt_of tid) votes ≡ true → (vote : Prepared) × ((p vote ≡ true) × ((vote.tid ≡ tid) × (vote.committed ≡ false)))) → (b || list_any (is_doubt_of tid) votes) ≡ true
          → (vote : Prepared) × ((p vote ≡ true) × ((vote.tid ≡ tid) × (vote.committed ≡ false)))
      by true is more so = let its : (is_of tid v ≡ true) × (not v.committed ≡ true) = and_both (is_of tid v) (not v.committed) is in (v, (both.0, (same_is v.tid tid its.0, not-true v.committed its.1)))
      by false is more so = more so

  -- no vote is in doubt beside a Commit
  pub doubt_alone : (said : Recovery) → are_unended said ≡ true → list_any (same_tid tid) said.committed ≡ true → has_doubt tid said ≡ false
  doubt_alone said unended committed = by (has_doubt tid said) refl
    where
      never : has_doubt tid said ≡ true → ⊥
      never has =
          let vote = vote_of (is_doubt said) said.prepared (and_both (list_all (is_doubt said) said.prepared) (list_all is_untold said.untold) unended).0 has in
          let clear : (names_transaction vote.0.tid ≡ true) × ((not (list_any (is_untold_of vote.0.tid) said.untold) && not (list_any (same_tid vote.0.tid) said.committed)) ≡ true) =
          and_both (names_transaction vote.0.tid) _ (open_one vote.0.committed _ vote.1.1.1 vote.1.0) in
          let none : not (list_any (same_tid tid) said.committed) ≡ true = subst (λ (k : Tid). not (list_any (same_tid k) said.committed) ≡ true) vote.1.1.0 (and_both (not (list_any (is_untold_of vote.0.tid) said.untold)) _ clear.1).1 in
          never_not (list_any (same_tid tid) said.committed) committed none
        where
          open_one : (a b : Bool) → a ≡ false → (a || b) ≡ true → b ≡ true
          open_one true b off is = absurd (cc (off))
          open_one false b off is = is

      by : (b : Bool) → has_doubt tid said ≡ b → b ≡ false
      by true has = absurd (never has)
      by false none = refl

  -- whom a Commit names is named
  pub names_both : (n : ℕ) (untold : List Untold) → list_any (names_it tid n) untold ≡ true → (list_any (is_untold_of tid) untold ≡ true) × (names_node (flat_map (λ (commit : Untold). commit.told) (filter (is_untold_of tid) untold)) (node_no n) ≡ true)
  names_both n [] has = absurd (cc (has))
  names_both n (c ∷ untold) has = by (is_untold_of tid c) (names_it tid n c) refl refl (names_both n untold) has
    where
      back : same_tid tid c.tid ≡ true → is_untold_of tid c ≡ true
      back same = turned tid c.tid same

      ahead : names_node (c.told ++ flat_map (λ (commit : Untold). commit.told) (filter (is_untold_of tid) untold)) (node_no n) ≡ (names_node c.told (node_no n) || names_node (flat_map (λ (commit : Untold). commit.told) (filter (is_untold_of tid) untold)) (node_no n))
      ahead = list_any-append (same_node (node_no n)) c.told _

      by : (a b : Bool) → is_untold_of tid c ≡ a → names_it tid n c ≡ b
          → (list_any (names_it tid n) untold ≡ true → (list_any (is_untold_of tid) untold ≡ true) × (names_node (flat_map (λ (commit : Untold). commit.told) (filter (is_untold_of tid) untold)) (node_no n) ≡ true))
          → (b || list_any (names_it tid n) untold) ≡ true
          → ((a || list_any (is_untold_of tid) untold) ≡ true) × (names_node (flat_map (λ (commit : Untold). commit.told) (if a then c ∷ filter (is_untold_of tid) untold else filter (is_untold_of tid) untold)) (node_no n) ≡ true)
      by true true its names more so = (refl, ahead ∙ or_left _ _ (and_both (same_tid tid c.tid) (has_node c.told (node_no n)) names).1)
      by true false its names more so = (refl, ahead ∙ or_right (names_node c.told (node_no n)) _ (more so).1)
      by false true its names more so = absurd (let is : is_untold_of tid c ≡ true = back (and_both (same_tid tid c.tid) (has_node c.told (node_no n)) names).0 in cc (its, is))
      by false false its names more so = more so

-- ---- the logs of an opening

module _ (o : Opening) (opens : IsOpening o) where
  steady_record : (n : ℕ) (rec : Record) → is_record o n rec ≡ true → is_steady_record (λ (tid : Tid). true) (node_no n) rec ≡ true
  steady_record n (records.Prepare tid server covers changes) is = both_and (not (names_transaction tid) || true) (is_recoverable server.0) (or_right (not (names_transaction tid)) true refl) (and_both (is_recoverable server.0) _ (and_both (is_earlier o tid) _ is).1).0
  steady_record n (records.Commit tid told) is = both_and (not (names_transaction tid) || true) _ (or_right (not (names_transaction tid)) true refl) (listed told (and_both (is_committed_at_home o tid) (is_list n tid told) (and_both (is_earlier o tid) _ is).1).1)
    where
      listed : (told : List NodeNo) → is_list n tid told ≡ true → Rattle.qs_world_refine.specs.Begun.is_list_at (node_no n) tid told ≡ true
      listed [] its = refl
      listed (first ∷ others) its = (and_both (tid.home.0 == n) _ its).0
  steady_record n (records.Aborted tid) is = or_right (not (names_transaction tid)) true refl
  steady_record n (records.End tid) is = or_right (not (names_transaction tid)) true refl

  -- each can be taken up
  pub log_said : (n : ℕ) → n < o.size → IsSaidTidy (λ (tid : Tid). true) (node_no n) (recovery (o.logs n))
  log_said n low = log_tidy (λ (tid : Tid). true) (node_no n) (o.logs n) (all_implied (is_record o n) (is_steady_record (λ (tid : Tid). true) (node_no n)) (steady_record n) (o.logs n) (each_is o.size (λ k. list_all (is_record o k) (o.logs k)) opens.logs n low))

  pub log_takes : (n : ℕ) → n < o.size → may_take_up (node_no n) (recovery (o.logs n)) ≡ true
  log_takes n low = takes_up (λ (tid : Tid). true) (node_no n) (recovery (o.logs n)) (log_said n low)

  -- where the home's log has a Commit, who is in doubt is still to be told
  pub doubt_told : (tid : Tid) (n : ℕ) → tid.home.0 < o.size → n < o.size → list_any (same_tid tid) (recovery (o.logs tid.home.0)).committed ≡ true → has_doubt tid (recovery (o.logs n)) ≡ true
      → (list_any (is_untold_of tid) (recovery (o.logs tid.home.0)).untold ≡ true) × (names_node (list_of tid (recovery (o.logs tid.home.0))) (node_no n) ≡ true)
  doubt_told tid n home_in low committed doubt =
      let vote = vote_of tid (is_open_vote o n) (recovery (o.logs n)).prepared (each_is o.size (λ k. list_all (is_open_vote o k) (recovery (o.logs k)).prepared) opens.votes n low) doubt in
      told (subst (λ (k : Tid). ((k.home.0 == n) || (not (is_in_run o.size k.home) || is_still_told o n k)) ≡ true) vote.1.1.0 vote.1.0)
    where
      never_home : (tid.home.0 == n) ≡ true → ⊥
      never_home at = let none : has_doubt tid (recovery (o.logs tid.home.0)) ≡ false = doubt_alone tid (recovery (o.logs tid.home.0)) (each_is o.size (λ k. are_unended (recovery (o.logs k))) opens.unended tid.home.0 home_in) committed in
          let here : has_doubt tid (recovery (o.logs tid.home.0)) ≡ true = subst (λ (k : ℕ). has_doubt tid (recovery (o.logs k)) ≡ true) (sym (eqb-true tid.home.0 n at)) doubt in cc (none, here)

      told : ((tid.home.0 == n) || (not (nat_lt tid.home.0 o.size) || is_still_told o n tid)) ≡ true → (list_any (is_untold_of tid) (recovery (o.logs tid.home.0)).untold ≡ true) × (names_node (list_of tid (recovery (o.logs tid.home.0))) (node_no n) ≡ true)
      told is = by (tid.home.0 == n) refl (nat_lt tid.home.0 o.size) (grind (arith, nat_tests, home_in)) (list_any (is_commit_of tid) (o.logs tid.home.0)) (commits_are_records tid (o.logs tid.home.0) committed) is
        where
          by : (a : Bool) → (tid.home.0 == n) ≡ a → (b : Bool) → b ≡ true → (c : Bool) → c ≡ true → (a || (not b || (not c || list_any (names_it tid n) (recovery (o.logs tid.home.0)).untold))) ≡ true
              → (list_any (is_untold_of tid) (recovery (o.logs tid.home.0)).untold ≡ true) × (names_node (list_of tid (recovery (o.logs tid.home.0))) (node_no n) ≡ true)
          by true at b in_run c logged is = absurd (never_home at)
          by false at true in_run true logged is = names_both tid n (recovery (o.logs tid.home.0)).untold is
          by false at false in_run c logged is = absurd (cc (in_run))
          by false at true in_run false logged is = absurd (cc (logged))
