-- A world after a whole step: what is posted, what waits, and what the node keeps.
use Rattle.qs_world_refine.proofs.Words.{◌≡◌, ◌≢◌, inr, ℕ, ◌≤◌, ◌<◌, ◌==◌, ◌&&◌, not, Bool, true, false, List, [], ◌∷◌, ◌++◌, map, Some, refl, sym, ap, subst, ◌∙◌, arith, nat_lt, if◌then◌else◌, nat_tests, fold-append, list_all, filter, NodeNo, Tid, Channels, same_node, Record, recovery, found_record, names_transaction, is_other, NodeValue, Work, step_work, after_step, effects_of, Effects, Sending, Setting, Source, event_of, taken_by, stepped_host, Host, Parcel, past_among, inc_in, count_in}
use Rattle.qs_world_refine.proofs.Words.{may_be_known, fits, fits_record, node_no, IsSeated, AreSoundOver, are_left_open, stage_with, stage_of, IsSteadyHost, IsSteadyWorld, is_steady_record, is_steady_parcel, are_two, Stage, IsTidy, is_tidy_sending, is_tidy_record}
use Rattle.qs_node_step.specs.declared.event.Event.{Event}
use Rattle.qs_world.specs.Moves.{stepped}
use Rattle.qs_world.specs.World.{World}
use Rattle.qs_world_refine.specs.Begun.{has_begun}
use Rattle.qs_world_refine.proofs.Moving.{inc_taken, up_taken, waits_taken, posted_taken, peer_taken}
use Rattle.qs_world_refine.proofs.Posted.{parcels, inc_all, up_all, peer_all, posted_all, waits_all}
use Rattle.qs_world_refine.proofs.SaidNames.{AreNamed, unended_named, fold_named, unended_said}
use Rattle.qs_world_refine.proofs.SaidTidy.{all_joined}
use Rattle.qs_world_refine.proofs.Sending.{append_nil}
use Rattle.qs_world_refine.proofs.SoundBegin.{all_implied}
use Rattle.qs_world_refine.proofs.SoundParts.{and_both, both_and}
use Rattle.qs_world_refine.proofs.SteadyGrows.{Grows, Rises, parcels_on, record_on, record_steady, hosts_after, may_be_on, has_begun_on}
use Rattle.qs_world_refine.proofs.SteadySteps.{accept_tidy}
use Rattle.qs_world_refine.proofs.TidyBegins.{Widens, node_wide, fits_wide, record_wide}
use Rattle.qs_world_refine.proofs.SteadyTakes.{peer_here, peers_taken, scripts_taken}
use Rattle.qs_base_lemmas.proofs.Tests.{ltb_some}

-- what may be known names a transaction
pub past_names : (size : ℕ) (inc count : ℕ → ℕ) (tid : Tid) → past_among size inc count tid ≡ true → names_transaction tid ≡ true
past_names size inc count tid is = (and_both (names_transaction tid) _ is).0

-- records behind others
pub named_behind : (past : Tid → Bool) (me : NodeNo) → ((tid : Tid) → past tid ≡ true → names_transaction tid ≡ true) → (log more : List Record) → are_left_open (recovery log) ≡ true → list_all (fits_record past me) more ≡ true → AreNamed (recovery (log ++ more))
named_behind past me names log more unended fit = subst AreNamed (sym (fold-append found_record Rattle.qs_restart.specs.Recovery.nothing_said log more)) (fold_named past me names more (recovery log) fit (unended_named (recovery log) unended))

module _ (world : World) (steady : IsSteadyWorld world) (n stamp free : ℕ) (source : Source) (event : Event) (is : event_of world n stamp source ≡ Some event) (low : n < world.size) (up : world.channels.up n ≡ true) where
  abbrev work : Work
  work = step_work (world.hosts n).node event free

  abbrev node : NodeValue
  node = after_step (world.hosts n).node event free

  abbrev out : Effects
  out = effects_of (world.hosts n).node event free

  abbrev host : Host
  host = stepped_host stamp node out (world.hosts n)

  abbrev new : World
  new = stepped world n stamp source node out

  abbrev taken : Channels Parcel
  taken = taken_by world n source

  up_eq : new.channels.up ≡ world.channels.up
  up_eq = up_all n stamp out.messages taken ∙ up_taken world n source

  inc_eq : new.channels.inc ≡ world.channels.inc
  inc_eq = inc_all n stamp out.messages taken ∙ inc_taken world n source

  peer_eq : new.channels.peer ≡ taken.peer
  peer_eq = peer_all n stamp out.messages taken

  inc_same : (k : ℕ) → inc_in new k ≡ inc_in world k
  inc_same k = rw (up_eq, inc_eq) refl

  itself : (n == n) ≡ true
  itself = grind (arith, nat_tests)

  count_here : count_in new n ≡ work.node.manager.begun
  count_here = rw (up_eq, up, itself) refl

  count_there : (k : ℕ) → (k == n) ≡ false → count_in new k ≡ count_in world k
  count_there k apart = rw (up_eq, apart) refl

  -- ---- the stage in which the step ends

  pub record Ends (e : Stage) : Type 0 where
    pub setting : e.setting ≡ (world.hosts n).node.setting
    pub tidy : IsTidy e work
    pub past : (tid : Tid) → e.past tid ≡ true → may_be_known new tid ≡ true
    pub begun : (tid : Tid) → e.begun tid ≡ true → has_begun new tid ≡ true
    pub met : (m : NodeNo) → e.met m ≡ true → nat_lt 0 (world.channels.peer n m.0) ≡ true
    pub count : (world.hosts n).node.manager.begun ≤ e.count
    pub names : (tid : Tid) → e.past tid ≡ true → names_transaction tid ≡ true

  -- numbers rise to that
  pub counts_rise : (count : ℕ → ℕ) → ((k : ℕ) → (k == n) ≡ false → count k ≡ count_in world k) → count n ≤ work.node.manager.begun → Rises (inc_in world) count (inc_in new) (count_in new)
  counts_rise count others own k = inr (sym (inc_same k), by (k == n) refl)
    where
      by : (b : Bool) → (k == n) ≡ b → count k ≤ count_in new k
      by true same = let at : k ≡ n = grind (arith, nat_tests, same) in subst (λ (j : ℕ). count j ≤ count_in new j) (sym at) (subst (λ (j : ℕ). count n ≤ j) (sym count_here) own)
      by false apart = subst (λ (j : ℕ). j ≤ count_in new k) (sym (others k apart)) (subst (λ (j : ℕ). count_in world k ≤ j) (sym (count_there k apart)) (grind (arith)))

  met_new : (m : ℕ) → 1 ≤ world.channels.peer n m → 1 ≤ new.channels.peer n m
  met_new m knows = subst (λ (p : ℕ → ℕ → ℕ). 1 ≤ p n m) (sym peer_eq) (peer_here world steady n stamp event source is m knows)

  apart_nodes : (a : ℕ) → (a == n) ≡ false → a ≢ n
  apart_nodes a off same = let it : (a == n) ≡ true = grind (arith, nat_tests, same) in cc (it, off)

  met_there : (a m : ℕ) → (a == n) ≡ false → 1 ≤ world.channels.peer a m → 1 ≤ new.channels.peer a m
  met_there a m off knows = subst (λ (p : ℕ → ℕ → ℕ). 1 ≤ p a m) (sym peer_eq) (subst (λ (k : ℕ). 1 ≤ k) (sym (peer_taken world n source a m (apart_nodes a off))) knows)

  module _ (e : Stage) (ends : Ends e) (seated : IsSeated new) (sound : AreSoundOver new) where
    pub grows : Grows world new
    grows = record { size = refl; rises = counts_rise (count_in world) (λ k apart. refl) (subst (λ (k : ℕ). k ≤ work.node.manager.begun) (sym own) (subst (λ (k : ℕ). (world.hosts n).node.manager.begun ≤ k) (sym ends.tidy.node.count) ends.count)) }
      where
        own : count_in world n ≡ (world.hosts n).node.manager.begun
        own = rw up refl

    setting_is : node.setting ≡ (world.hosts n).node.setting
    setting_is = ends.tidy.node.setting ∙ ends.setting

    wide : Widens e (stage_with new n node)
    wide = record { setting = ends.tidy.node.setting; past = ends.past; begun = ends.begun; met = λ m its. low_one (new.channels.peer n m.0) (met_new m.0 (ltb_some (world.channels.peer n m.0) (ends.met m its))) }
      where
        low_one : (k : ℕ) → 1 ≤ k → nat_lt 0 k ≡ true
        low_one k it = grind (arith, nat_tests, it)

    -- ---- its log

    old_records : list_all (is_steady_record (may_be_known new) node.setting.node) ((world.hosts n).log ++ (world.hosts n).waiting) ≡ true
    old_records = subst (λ (s : Setting). list_all (is_steady_record (may_be_known new) s.node) ((world.hosts n).log ++ (world.hosts n).waiting) ≡ true) (sym setting_is)
        (all_implied (is_steady_record (may_be_known world) (world.hosts n).node.setting.node) (is_steady_record (may_be_known new) (world.hosts n).node.setting.node)
        (record_on (may_be_known world) (may_be_known new) (may_be_on world new grows) (world.hosts n).node.setting.node) ((world.hosts n).log ++ (world.hosts n).waiting) (steady.nodes n low).records)

    old_waiting : list_all (is_tidy_record (stage_with new n node)) (world.hosts n).waiting ≡ true
    old_waiting = all_implied (is_tidy_record (stage_of world n)) (is_tidy_record (stage_with new n node)) (record_wide (stage_of world n) (stage_with new n node)
        (record { setting = setting_is; past = may_be_on world new grows; begun = has_begun_on world new grows; met = λ m its. met_bool m.0 its })) (world.hosts n).waiting (steady.nodes n low).waiting
      where
        met_bool : (m : ℕ) → nat_lt 0 (world.channels.peer n m) ≡ true → nat_lt 0 (new.channels.peer n m) ≡ true
        met_bool m its = let it : 1 ≤ new.channels.peer n m = met_new m (grind (arith, nat_tests, its)) in grind (arith, nat_tests, it)

    more_records : list_all (is_tidy_record (stage_with new n node)) out.records ≡ true
    more_records = all_implied (is_tidy_record e) (is_tidy_record (stage_with new n node)) (record_wide e (stage_with new n node) wide) out.records ends.tidy.out.records

    both_records : list_all (is_tidy_record (stage_with new n node)) ((world.hosts n).waiting ++ out.records) ≡ true
    both_records = all_joined (is_tidy_record (stage_with new n node)) (world.hosts n).waiting out.records old_waiting more_records

    records_now : list_all (is_steady_record (may_be_known new) node.setting.node) (host.log ++ host.waiting) ≡ true
    records_now = subst (λ (l : List Record). list_all (is_steady_record (may_be_known new) node.setting.node) l ≡ true) (sym (Rattle.qs_world_refine.proofs.SaidMoves.log_same out.force (world.hosts n).log (world.hosts n).waiting out.records))
        (all_joined (is_steady_record (may_be_known new) node.setting.node) ((world.hosts n).log ++ (world.hosts n).waiting) out.records old_records
        (all_implied (is_tidy_record (stage_with new n node)) (is_steady_record (may_be_known new) node.setting.node) (record_steady (may_be_known new) node.setting.node) out.records more_records))

    waiting_now : (b : Bool) → list_all (is_tidy_record (stage_with new n node)) (if b then [] else (world.hosts n).waiting ++ out.records) ≡ true
    waiting_now true = refl
    waiting_now false = both_records

    unended_now : are_left_open (recovery host.log) ≡ true
    unended_now = by out.force refl
      where
        here : new.hosts n ≡ host
        here = rw itself refl

        up_new : new.channels.up n ≡ true
        up_new = subst (λ (u : ℕ → Bool). u n ≡ true) (sym up_eq) up

        sound_node : Rattle.qs_world_refine.specs.Sound.is_sound node ≡ true
        sound_node = subst (λ (h : Host). Rattle.qs_world_refine.specs.Sound.is_sound h.node ≡ true) here (sound n low).node

        said : Rattle.qs_world_refine.specs.Sound.is_sound_said node (recovery (host.log ++ host.waiting)) ≡ true
        said = subst (λ (h : Host). Rattle.qs_world_refine.specs.SaidLaws.is_said_host h ≡ true) here ((sound n low).runs up_new)

        by : (b : Bool) → out.force ≡ b → are_left_open (recovery (if b then (world.hosts n).log ++ ((world.hosts n).waiting ++ out.records) else (world.hosts n).log)) ≡ true
        by false forced = (steady.nodes n low).unended
        by true forced = unended_said node (recovery ((world.hosts n).log ++ ((world.hosts n).waiting ++ out.records))) sound_node
            (subst (λ (l : List Record). Rattle.qs_world_refine.specs.Sound.is_sound_said node (recovery l) ≡ true) (append_nil ((world.hosts n).log ++ ((world.hosts n).waiting ++ out.records)))
            (subst (λ (b : Bool). Rattle.qs_world_refine.specs.Sound.is_sound_said node (recovery ((if b then (world.hosts n).log ++ ((world.hosts n).waiting ++ out.records) else (world.hosts n).log) ++ (if b then [] else (world.hosts n).waiting ++ out.records))) ≡ true) forced said))
            (named_behind (may_be_known new) node.setting.node (past_names new.size (inc_in new) (count_in new)) (world.hosts n).log ((world.hosts n).waiting ++ out.records) (steady.nodes n low).unended both_records)

    host_now : IsSteadyHost (stage_with new n node) host
    host_now = record {
      tidy = node_wide e (stage_with new n node) wide node ends.tidy.node.count (accept_tidy e work.node ends.tidy.node);
      saved = refl;
      first = λ first. absurd (let off : work.node.is_first ≡ false = ends.tidy.begun in cc (first, off));
      records = records_now;
      waiting = waiting_now out.force;
      unended = unended_now;
    }

    -- ---- what it posted

    sent_fit : (q : ℕ) (sendings : List Sending) → list_all (is_tidy_sending e) sendings ≡ true → list_all (is_steady_parcel new n q) (parcels n stamp q sendings) ≡ true
    sent_fit q [] all = refl
    sent_fit q (s ∷ sendings) all = by (s.to.0 == q) refl (sent_fit q sendings both.1)
      where
        both : (is_tidy_sending e s ≡ true) × (list_all (is_tidy_sending e) sendings ≡ true)
        both = and_both (is_tidy_sending e s) _ all

        place : e.setting.node ≡ node_no n
        place = ap (λ (s : Setting). s.node) ends.setting ∙ steady.seated.node n low

        size : e.setting.nodes ≡ world.size
        size = ap (λ (s : Setting). s.nodes) ends.setting ∙ steady.seated.nodes n low

        two : s.to.0 ≡ q → (is_other e.setting s.to) ≡ true → are_two world.size n q ≡ true
        two to other =
            let parts : (not (same_node e.setting.node s.to) ≡ true) × (nat_lt s.to.0 e.setting.nodes ≡ true) = and_both (not (same_node e.setting.node s.to)) _ other in
            let off : not (n == q) ≡ true = subst (λ (k : ℕ). not (n == k) ≡ true) to (subst (λ (m : NodeNo). not (same_node m s.to) ≡ true) place parts.0) in
            let in_run : nat_lt q world.size ≡ true = subst (λ (k : ℕ). nat_lt k world.size ≡ true) to (subst (λ (k : ℕ). nat_lt s.to.0 k ≡ true) size parts.1) in
            both_and (nat_lt n world.size) _ (grind (arith, nat_tests, low)) (both_and (nat_lt q world.size) _ in_run off)

        fit : s.to.0 ≡ q → is_steady_parcel new n q (record { stamp = stamp; message = s.message }) ≡ true
        fit to =
            let parts : (is_other e.setting s.to ≡ true) × (fits e.past e.begun e.setting.nodes e.setting.node s.to s.message ≡ true) = and_both (is_other e.setting s.to) _ both.0 in
            both_and (are_two world.size n q) _ (two to parts.0)
            (subst (λ (k : ℕ). fits (may_be_known new) (has_begun new) world.size (node_no n) (node_no k) s.message ≡ true) to
            (subst (λ (k : ℕ). fits (may_be_known new) (has_begun new) k (node_no n) s.to s.message ≡ true) size
            (subst (λ (m : NodeNo). fits (may_be_known new) (has_begun new) e.setting.nodes m s.to s.message ≡ true) place
            (fits_wide e (stage_with new n node) wide e.setting.nodes e.setting.node s.to s.message parts.1))))

        by : (b : Bool) → (s.to.0 == q) ≡ b → list_all (is_steady_parcel new n q) (parcels n stamp q sendings) ≡ true
            → list_all (is_steady_parcel new n q) (map (λ (sending : Sending). record { stamp = stamp; message = sending.message }) (if b then s ∷ filter (λ (sending : Sending). sending.to.0 == q) sendings else filter (λ (sending : Sending). sending.to.0 == q) sendings)) ≡ true
        by true to more = both_and (is_steady_parcel new n q (record { stamp = stamp; message = s.message })) _ (fit (grind (arith, nat_tests, to))) more
        by false off more = more

    -- behind what was there
    behind : (p q : ℕ) (b : Bool) (old : List Parcel) → (b ≡ true → p ≡ n) → list_all (is_steady_parcel world p q) old ≡ true → list_all (is_steady_parcel new p q) (if b then old ++ parcels n stamp q out.messages else old) ≡ true
    behind p q true old here all = all_joined (is_steady_parcel new p q) old (parcels n stamp q out.messages) (parcels_on world new grows p q old all)
        (subst (λ (k : ℕ). list_all (is_steady_parcel new k q) (parcels n stamp q out.messages) ≡ true) (sym (here refl)) (sent_fit q out.messages ends.tidy.out.messages))
    behind p q false old here all = parcels_on world new grows p q old all

    first_of : (p : ℕ) (b : Bool) → ((p == n) && b) ≡ true → p ≡ n
    first_of p b its = let it : (p == n) ≡ true = (and_both (p == n) b its).0 in grind (arith, nat_tests, it)

    posted_now : (p q i j : ℕ) → list_all (is_steady_parcel new p q) (new.channels.posted p q i j) ≡ true
    posted_now p q i j = subst (λ (l : List Parcel). list_all (is_steady_parcel new p q) l ≡ true) (sym (posted_all n stamp out.messages taken p q i j))
        (behind p q ((p == n) && ((i == taken.inc n) && ((j == taken.peer n q) && not (j == 0)))) (taken.posted p q i j) (first_of p ((i == taken.inc n) && ((j == taken.peer n q) && not (j == 0))))
        (subst (λ (f : ℕ → ℕ → ℕ → ℕ → List Parcel). list_all (is_steady_parcel world p q) (f p q i j) ≡ true) (sym (posted_taken world n source)) (steady.posted p q i j)))

    waits_now : (p q : ℕ) → list_all (is_steady_parcel new p q) (new.channels.waits p q) ≡ true
    waits_now p q = subst (λ (l : List Parcel). list_all (is_steady_parcel new p q) l ≡ true) (sym (waits_all n stamp out.messages taken p q))
        (behind p q ((p == n) && (taken.peer n q == 0)) (taken.waits p q) (first_of p (taken.peer n q == 0))
        (subst (λ (f : ℕ → ℕ → List Parcel). list_all (is_steady_parcel world p q) (f p q) ≡ true) (sym (waits_taken world n source)) (steady.waits p q)))

    nobody_now : (p q j : ℕ) → new.channels.posted p q 0 j ≡ []
    nobody_now p q j = posted_all n stamp out.messages taken p q 0 j ∙ (pick (p == n) (0 == taken.inc n) ((j == taken.peer n q) && not (j == 0)) none ∙ (ap (λ (f : ℕ → ℕ → ℕ → ℕ → List Parcel). f p q 0 j) (posted_taken world n source) ∙ steady.nobody p q j))
      where
        none : (0 == taken.inc n) ≡ false
        none = subst (λ (f : ℕ → ℕ). (0 == f n) ≡ false) (sym (inc_taken world n source)) (off (world.channels.inc n) (steady.seated.begun n low))
          where
            off : (k : ℕ) → 1 ≤ k → (0 == k) ≡ false
            off k it = grind (arith, nat_tests, it)

        pick : (a b d : Bool) → b ≡ false → (if a && (b && d) then taken.posted p q 0 j ++ parcels n stamp q out.messages else taken.posted p q 0 j) ≡ taken.posted p q 0 j
        pick true b d off = rw off refl
        pick false b d off = refl

    pub stepped_steady : IsSteadyWorld new
    stepped_steady = record {
      seated = seated;
      sound = sound;
      nodes = hosts_after world new n host grows (λ k. refl) (λ k m off knows. met_there k m off knows) (λ in_run. host_now) steady.nodes;
      peers = λ p q knows. peers_taken world steady n stamp event p q source is (subst (λ (f : ℕ → ℕ → ℕ). 1 ≤ f p q) peer_eq knows);
      nobody = nobody_now;
      posted = posted_now;
      waits = waits_now;
      scripts = scripts_taken world steady n stamp event source out.answers;
    }
