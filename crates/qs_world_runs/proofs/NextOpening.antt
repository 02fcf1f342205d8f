-- The logs that a run leaves are what a next run may begin with.
use Rattle.qs_world_runs.proofs.Words.{◌≡◌, ◌⊎◌, inl, inr, ℕ, ◌<◌, ◌==◌, ◌||◌, ◌&&◌, ◌++◌, not, nat_le, nat_lt, zero, suc, Bool, true, false, List, [], ◌∷◌, refl, sym, ap, subst, ◌∙◌, arith, if◌then◌else◌, nat_tests, list_any-append, filter, list_all, list_any, same_tid-self, same_tid-true, same_tid, NodeNo, Tid, is_recoverable, Record, Prepared, Recovery, names_transaction, recovery, IsOpening, each_below, is_earlier, is_record, Host, Opening, World, stage_of, Every, IsApart, Joined}
use Rattle.qs_world_runs.proofs.Words.{AlongRun, is_own_vote, or_cases, and_from, or_left, or_right, ltb-true, eqb-self}
use Rattle.std.proofs.Common.{flat_map}
use Rattle.qs_ipc.specs.Queue.{is_for}
use Rattle.qs_record.specs.declared.record.Record.TheVariants as records
use Rattle.qs_restart.specs.Recovery.{Untold, is_untold_of}
use Rattle.qs_world.specs.Openings.{are_unended, has_node, is_commit_of, is_committed_at_home, is_doubt, is_open_vote, is_still_told, is_untold, is_whole_log, names_it}
use Rattle.qs_world_refine.specs.Links.{names_node, node_no}
use Rattle.qs_world_refine.specs.Listed.{is_past_record, is_past_tid}
use Rattle.qs_world_refine.specs.SaidLaws.{are_left_open, lists_others}
use Rattle.qs_world_refine.specs.SaidLaws as said_laws
use Rattle.qs_world_refine.specs.Sound.{has_doubt}
use Rattle.qs_world_refine.specs.Steadies.{is_steady_record}
use Rattle.qs_world_refine.proofs.NodesAgree.{logs_stand}
use Rattle.qs_world_refine.proofs.SaidTidy.{all_parted}
use Rattle.qs_world_refine.proofs.SoundParts.{and_both}
use Rattle.qs_world_lawful.proofs.OpenedCommits.{commit_among}
use Rattle.qs_world_runs.specs.CoherentAgain.{EachRunCoherent, IsNextOpening}
use Rattle.qs_world_runs.specs.OwnChanges.{OwnChangesAt}
use Rattle.qs_world_runs.proofs.CommitsHomeRuns.{Has, each_commits_home}
use Rattle.qs_world_runs.proofs.JoinedOver.{each_run_joined}
use Rattle.qs_world_runs.proofs.ListsHome.{IsHomed, lists_home}
use Rattle.qs_world_runs.proofs.OwnMoves.{each_has_own_changes}
use Rattle.qs_world_runs.proofs.RunsGoOn.{runs_go}
use Rattle.qs_base_lemmas.proofs.Tests.{implied}

-- ---- tests

above : (a b c : ℕ) → nat_le a b ≡ true → b < c → nat_lt a c ≡ true
above a b c le lt = grind (arith, nat_tests, le, lt)

last_low : (n : ℕ) → n < suc n
last_low n = grind (arith)

lower : (k n : ℕ) → k < n → k < suc n
lower k n is = grind (arith, is)

turned : (a b : ℕ) → (a == b) ≡ false → (b ≡ a) → ⊥
turned a b off same = by (subst (λ (k : ℕ). (a == k) ≡ false) same off) (eqb-self a)
  where
    by : (a == a) ≡ false → (a == a) ≡ true → ⊥
    by off on = cc (off, on)

pub each_so : (n : ℕ) (test : ℕ → Bool) → ((k : ℕ) → k < n → test k ≡ true) → each_below n test ≡ true
each_so zero test all = refl
each_so (suc n) test all = and_from (test n) (each_below n test) (all n (last_low n)) (each_so n test (λ k low. all k (lower k n low)))

-- ---- what a Commit that is not ended names

module _ (tid : Tid) (n : ℕ) where
  any_both : (xs ys : List NodeNo) → names_node (xs ++ ys) (node_no n) ≡ true → (names_node xs (node_no n) ≡ true) ⊎ (names_node ys (node_no n) ≡ true)
  any_both xs ys is = or_cases (names_node xs (node_no n)) (names_node ys (node_no n)) (sym (list_any-append _ xs ys) ∙ is)

  named_by : (commits : List Untold) → names_node (flat_map (λ (commit : Untold). commit.told) (filter (is_untold_of tid) commits)) (node_no n) ≡ true → list_any (names_it tid n) commits ≡ true
  named_by [] is = absurd (cc is)
  named_by (c ∷ commits) is = by (is_untold_of tid c) refl is (named_by commits)
    where
      here : is_untold_of tid c ≡ true → (names_node c.told (node_no n) ≡ true) ⊎ (names_node (flat_map (λ (commit : Untold). commit.told) (filter (is_untold_of tid) commits)) (node_no n) ≡ true)
          → (names_node (flat_map (λ (commit : Untold). commit.told) (filter (is_untold_of tid) commits)) (node_no n) ≡ true → list_any (names_it tid n) commits ≡ true) → list_any (names_it tid n) (c ∷ commits) ≡ true
      here same (inl its) more = or_left (names_it tid n c) _ (and_from (same_tid tid c.tid) (has_node c.told (record { 0 = n })) (subst (λ (t : Tid). same_tid tid t ≡ true) (sym (same_tid-true c.tid tid same)) (same_tid-self tid)) its)
      here same (inr rest) more = or_right (names_it tid n c) _ (more rest)

      by : (b : Bool) → is_untold_of tid c ≡ b → names_node (flat_map (λ (commit : Untold). commit.told) (if b then c ∷ filter (is_untold_of tid) commits else filter (is_untold_of tid) commits)) (node_no n) ≡ true
          → (names_node (flat_map (λ (commit : Untold). commit.told) (filter (is_untold_of tid) commits)) (node_no n) ≡ true → list_any (names_it tid n) commits ≡ true) → list_any (names_it tid n) (c ∷ commits) ≡ true
      by true same is more = here same (any_both c.told (flat_map (λ (commit : Untold). commit.told) (filter (is_untold_of tid) commits)) is) more
      by false apart is more = or_right (names_it tid n c) _ (more is)

-- ---- an opening over the logs of a world

module _ (o : Opening) (world : World) (next : Opening) (j : Joined AlongRun o world) (is : IsNextOpening world next) (owns : OwnChangesAt world)
    (home : (n : ℕ) → n < world.size → (tid : Tid) → nat_lt tid.home.0 world.size ≡ true → Has tid (world.hosts n).log → Has tid (world.hosts tid.home.0).log) where
  earlier : (tid : Tid) → is_past_tid world tid ≡ true → is_earlier next tid ≡ true
  earlier tid past = subst (λ (s : ℕ). (not (nat_lt tid.home.0 s) || nat_lt tid.inc (next.settings tid.home.0).inc) ≡ true) (sym is.size) (by (nat_lt tid.home.0 world.size) refl past)
    where
      by : (b : Bool) → nat_lt tid.home.0 world.size ≡ b → (not b || nat_le tid.inc (world.channels.inc tid.home.0)) ≡ true → (not b || nat_lt tid.inc (next.settings tid.home.0).inc) ≡ true
      by false off past = refl
      by true on past = above tid.inc (world.channels.inc tid.home.0) (next.settings tid.home.0).inc past (is.later tid.home.0 (ltb-true tid.home.0 world.size on))

  module _ (n : ℕ) (low : n < world.size) where
    abbrev host : Host
    host = world.hosts n

    abbrev said : Recovery
    said = recovery host.log

    committed_home : (tid : Tid) → Has tid host.log → is_committed_at_home next tid ≡ true
    committed_home tid has = subst (λ (s : ℕ). (not (nat_lt tid.home.0 s) || list_any (is_commit_of tid) (next.logs tid.home.0)) ≡ true) (sym is.size) (by (nat_lt tid.home.0 world.size) refl)
      where
        by : (b : Bool) → nat_lt tid.home.0 world.size ≡ b → (not b || list_any (is_commit_of tid) (next.logs tid.home.0)) ≡ true
        by false off = refl
        by true on = subst (Has tid) (sym (is.logs tid.home.0 (ltb-true tid.home.0 world.size on))) (home n low tid on has)

    abbrev past : Tid → Bool
    past = (stage_of world n).past

    abbrev me : NodeNo
    me = host.node.setting.node

    abbrev fits : Record → Bool
    fits = is_steady_record past me

    here : (tid : Tid) → (tid.home.0 == me.0) ≡ true → (tid.home.0 == n) ≡ true
    here tid same = subst (λ (k : NodeNo). (tid.home.0 == k.0) ≡ true) (j.shown.steady.seated.node n low) same

    one : (rec : Record) → fits rec ≡ true → is_past_record world rec ≡ true → lists_others rec ≡ true → is_own_vote rec ≡ true → ((tid : Tid) → is_commit_of tid rec ≡ true → Has tid host.log) → is_record next n rec ≡ true
    one (records.Prepare tid server covers changes) steady past others own has =
        and_from (is_earlier next tid) _ (earlier tid past) (and_from (is_recoverable server.0) (list_all (is_for server) changes) (and_both _ (is_recoverable server.0) steady).1 (implied (is_recoverable server.0) (list_all (is_for server) changes) (and_both _ (is_recoverable server.0) steady).1 own))
    one (records.Commit tid []) steady past others own has = and_from (is_earlier next tid) _ (earlier tid past) (and_from (is_committed_at_home next tid) true (committed_home tid (has tid (same_tid-self tid))) refl)
    one (records.Commit tid (first ∷ more)) steady past others own has =
        and_from (is_earlier next tid) _ (earlier tid past) (and_from (is_committed_at_home next tid) _ (committed_home tid (has tid (same_tid-self tid))) (and_from (tid.home.0 == n) _ (here tid (and_both _ (tid.home.0 == me.0) steady).1) others))
    one (records.Aborted tid) steady past others own has = earlier tid past
    one (records.End tid) steady past others own has = earlier tid past

    all : (recs : List Record) → list_all fits recs ≡ true → list_all (is_past_record world) recs ≡ true → list_all lists_others recs ≡ true → list_all is_own_vote recs ≡ true → ((tid : Tid) → Has tid recs → Has tid host.log)
        → list_all (is_record next n) recs ≡ true
    all [] steady past others own has = refl
    all (rec ∷ recs) steady past others own has = and_from (is_record next n rec) (list_all (is_record next n) recs)
        (one rec (and_both (fits rec) _ steady).0 (and_both (is_past_record world rec) _ past).0 (and_both (lists_others rec) _ others).0 (and_both (is_own_vote rec) _ own).0 (λ tid its. has tid (or_left (is_commit_of tid rec) _ its)))
        (all recs (and_both (fits rec) _ steady).1 (and_both (is_past_record world rec) _ past).1 (and_both (lists_others rec) _ others).1 (and_both (is_own_vote rec) _ own).1 (λ tid its. has tid (or_right (is_commit_of tid rec) _ its)))

    fit : list_all fits host.log ≡ true
    fit = (all_parted fits host.log host.waiting (j.shown.steady.nodes n low).records).0

    pub log_so : list_all (is_record next n) host.log ≡ true
    log_so = all host.log fit (all_parted (is_past_record world) host.log host.waiting (j.shown.listed.past n low)).0 (all_parted lists_others host.log host.waiting (j.shown.listed.others n low)).0 (owns n low).logged (λ tid has. has)

    -- ---- votes

    open_now : (list_all (said_laws.is_open_vote said) said.prepared ≡ true) × (list_all is_untold said.untold ≡ true)
    open_now = and_both (list_all (said_laws.is_open_vote said) said.prepared) (list_all is_untold said.untold) (j.shown.steady.nodes n low).unended

    told : (tid : Tid) → nat_lt tid.home.0 world.size ≡ true → (tid.home.0 == n) ≡ false → names_transaction tid ≡ true → has_doubt tid said ≡ true → Has tid (world.hosts tid.home.0).log → list_any (names_it tid n) (recovery (world.hosts tid.home.0).log).untold ≡ true
    told tid in_run far named doubt has = named_by tid n (recovery (world.hosts tid.home.0).log).untold
        (logs_stand tid world n j.shown named (ltb-true tid.home.0 world.size in_run) low (turned tid.home.0 n far) (commit_among tid named (world.hosts tid.home.0).log has) doubt).1

    vote_so : (vote : Prepared) → IsHomed past me vote → said_laws.is_open_vote said vote ≡ true → (vote.committed ≡ false → has_doubt vote.tid said ≡ true) → is_open_vote next n vote ≡ true
    vote_so vote homed open_vote doubt = by (vote.tid.home.0 == n) refl
      where
        unmarked : (tid : Tid) (c : Bool) → vote.committed ≡ c → (vote.tid.home.0 == n) ≡ false → c ≡ false
        unmarked tid false is far = refl
        unmarked tid true is far = absurd (let near : (vote.tid.home.0 == n) ≡ true = here vote.tid (homed is) in cc (near, far))

        named : (c b d : Bool) → c ≡ false → (c || (b && d)) ≡ true → b ≡ true
        named false b d is its = (and_both b d its).0
        named true b d is its = absurd (cc is)

        tell : nat_lt vote.tid.home.0 world.size ≡ true → (vote.tid.home.0 == n) ≡ false → (b : Bool) → list_any (is_commit_of vote.tid) (world.hosts vote.tid.home.0).log ≡ b
            → (not b || list_any (names_it vote.tid n) (recovery (world.hosts vote.tid.home.0).log).untold) ≡ true
        tell in_run far false none = refl
        tell in_run far true has = told vote.tid in_run far (named vote.committed (names_transaction vote.tid) _ (unmarked vote.tid vote.committed refl far) open_vote) (doubt (unmarked vote.tid vote.committed refl far)) has

        away : (vote.tid.home.0 == n) ≡ false → (b : Bool) → nat_lt vote.tid.home.0 world.size ≡ b → (not b || is_still_told next n vote.tid) ≡ true
        away far false off = refl
        away far true on = subst (λ (log : List Record). (not (list_any (is_commit_of vote.tid) log) || list_any (names_it vote.tid n) (recovery log).untold) ≡ true) (sym (is.logs vote.tid.home.0 (ltb-true vote.tid.home.0 world.size on)))
            (tell on far (list_any (is_commit_of vote.tid) (world.hosts vote.tid.home.0).log) refl)

        by : (b : Bool) → (vote.tid.home.0 == n) ≡ b → (b || (not (nat_lt vote.tid.home.0 next.size) || is_still_told next n vote.tid)) ≡ true
        by true near = refl
        by false far = subst (λ (s : ℕ). (not (nat_lt vote.tid.home.0 s) || is_still_told next n vote.tid) ≡ true) (sym is.size) (away far (nat_lt vote.tid.home.0 world.size) refl)

    votes_are : (vs : List Prepared) → Every (IsHomed past me) vs → list_all (said_laws.is_open_vote said) vs ≡ true → ((tid : Tid) → list_any (λ (v : Prepared). same_tid v.tid tid && not v.committed) vs ≡ true → has_doubt tid said ≡ true) → list_all (is_open_vote next n) vs ≡ true
    votes_are [] homed opens doubt = refl
    votes_are (v ∷ vs) homed opens doubt = and_from (is_open_vote next n v) (list_all (is_open_vote next n) vs)
        (vote_so v homed.0 (and_both (said_laws.is_open_vote said v) _ opens).0 (λ off. doubt v.tid (or_left (same_tid v.tid v.tid && not v.committed) _ (and_from (same_tid v.tid v.tid) (not v.committed) (same_tid-self v.tid) (ap not off)))))
        (votes_are vs homed.1 (and_both (said_laws.is_open_vote said v) _ opens).1 (λ tid some. doubt tid (or_right (same_tid v.tid tid && not v.committed) _ some)))

    pub votes_so : list_all (is_open_vote next n) said.prepared ≡ true
    votes_so = votes_are said.prepared (lists_home _ me host.log fit) open_now.0 (λ tid some. some)

    -- ---- what is not ended

    apart : Every (IsApart said) said.prepared
    apart = by (world.channels.up n) refl
      where
        by : (b : Bool) → world.channels.up n ≡ b → Every (IsApart said) said.prepared
        by true up = ((j.held.nodes n low).runs up).on_disk.apart
        by false down = ((j.held.nodes n low).stopped down).left.apart

    doubt_so : (vote : Prepared) → IsApart said vote → said_laws.is_open_vote said vote ≡ true → is_doubt said vote ≡ true
    doubt_so vote alone its = by vote.committed refl its
      where
        by : (c : Bool) → vote.committed ≡ c → (c || (names_transaction vote.tid && not (list_any (is_untold_of vote.tid) said.untold))) ≡ true
            → (c || (names_transaction vote.tid && (not (list_any (is_untold_of vote.tid) said.untold) && not (list_any (same_tid vote.tid) said.committed)))) ≡ true
        by true marked its = refl
        by false unmarked its =
            let p = and_both (names_transaction vote.tid) _ its in
            and_from (names_transaction vote.tid) _ p.0 (and_from (not (list_any (is_untold_of vote.tid) said.untold)) _ p.1 (ap not (alone p.0 unmarked)))

    doubts_so : (vs : List Prepared) → Every (IsApart said) vs → list_all (said_laws.is_open_vote said) vs ≡ true → list_all (is_doubt said) vs ≡ true
    doubts_so [] alone opens = refl
    doubts_so (v ∷ vs) alone opens = and_from (is_doubt said v) (list_all (is_doubt said) vs) (doubt_so v alone.0 (and_both (said_laws.is_open_vote said v) _ opens).0) (doubts_so vs alone.1 (and_both (said_laws.is_open_vote said v) _ opens).1)

    pub unended_so : are_unended said ≡ true
    unended_so = and_from (list_all (is_doubt said) said.prepared) (list_all is_untold said.untold) (doubts_so said.prepared apart open_now.0) open_now.1

  -- ---- all of it

  over : (test : ℕ → List Record → Bool) → ((n : ℕ) → n < world.size → test n (world.hosts n).log ≡ true) → each_below next.size (λ n. test n (next.logs n)) ≡ true
  over test all = each_so next.size (λ n. test n (next.logs n)) (λ n low. let its : n < world.size = subst (λ (s : ℕ). n < s) is.size low in subst (λ (log : List Record). test n log ≡ true) (sym (is.logs n its)) (all n its))

  pub next_opens : IsOpening next
  next_opens = record {
    size = subst (λ (s : ℕ). (nat_le 1 s && nat_le s 16) ≡ true) (sym (is.size ∙ j.size)) j.opens.size;
    settings = is.settings;
    scripts = is.scripts;
    labels = is.labels;
    logs = over (λ n log. list_all (is_record next n) log) log_so;
    votes = over (λ n log. list_all (is_open_vote next n) (recovery log).prepared) votes_so;
    unended = over (λ n log. are_unended (recovery log)) unended_so;
    whole = over (λ n log. is_whole_log (recovery log)) (λ n low. j.shown.listed.whole_logs n low);
  }

pub each_run_coherent : EachRunCoherent
each_run_coherent o moves world next opens run is = next_opens o world next j is (each_has_own_changes o moves world opens run) (λ n low tid home_in has. each_commits_home o moves world opens run n low tid home_in has)
  where
    j : Joined AlongRun o world
    j = each_run_joined AlongRun runs_go o moves world opens run
