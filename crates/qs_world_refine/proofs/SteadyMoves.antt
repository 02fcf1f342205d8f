-- So it is after each move: a step, one that is cut off, a stop, a restart and a first meeting.
use Rattle.qs_world_refine.proofs.Words.{◌≡◌, inl, inr, ℕ, ◌+◌, ◌≤◌, ◌<◌, ◌==◌, Bool, true, false, List, ◌++◌, Some, refl, sym, subst, arith, if◌then◌else◌, ◌⊎◌, list_all, NodeNo, CrashCause, Record, recovery, step_work, after_step, effects_of, Effects, Source, event_of, step_with, cut_log, stopped_host, stopped, inc_in, count_in, may_be_known, fits_record, IsSeated, AreSoundOver, are_left_open, is_sound, is_sound_said, begun, commands_in_run, stage_with, stage_of, IsSteadyHost, IsSteadyWorld}
use Rattle.qs_world_refine.proofs.Words.{MachineGives, is_steady_record, is_steady_line, IsTidy, is_tidy_record, eqb-self, eqb-true}
use Rattle.qs_node_step.specs.declared.event.Event.{Event}
use Rattle.qs_world.specs.World.{World}
use Rattle.qs_world_refine.specs.SoundSteps.{settled}
use Rattle.qs_world_refine.proofs.SaidNames.{unended_said}
use Rattle.qs_world_refine.proofs.SaidSteps.{step_said, step_open}
use Rattle.qs_world_refine.proofs.SaidTidy.{all_joined, all_parted}
use Rattle.qs_world_refine.proofs.SaysOn.{append_three}
use Rattle.qs_world_refine.proofs.Sending.{append_nil}
use Rattle.qs_world_refine.proofs.SoundBegin.{all_implied}
use Rattle.qs_world_refine.proofs.SoundStep.{step_sound}
use Rattle.qs_world_refine.proofs.SteadyGrows.{Grows, Rises, begun_rises, past_rises, parcels_on, record_on, record_steady, hosts_after, may_be_on, has_begun_on}
use Rattle.qs_world_refine.proofs.SteadyBegins.{comes_may, comes_new}
use Rattle.qs_world_refine.proofs.SteadyMays.{event_fits, open_at}
use Rattle.qs_world_refine.proofs.SteadyPosts.{Ends, stepped_steady, counts_rise, past_names, named_behind}
use Rattle.qs_world_refine.proofs.SteadySteps.{c, d, bump, step_tidy}
use Rattle.qs_world_refine.proofs.TidyBegins.{Widens, node_wide, record_wide}

-- ---- a whole step

module _ (world : World) (steady : IsSteadyWorld world) (n stamp free : ℕ) (source : Source) (event : Event) (is : event_of world n stamp source ≡ Some event) (low : n < world.size) (up : world.channels.up n ≡ true)
    (gives : MachineGives event (begun (world.hosts n).node free)) where
  abbrev new : World
  new = step_with world n stamp free source (Some event)

  count_is : count_in world n ≡ (world.hosts n).node.manager.begun
  count_is = rw up refl

  pub in_stage : IsTidy (c world steady n free low up) (step_work (world.hosts n).node event free) → Ends world steady n stamp free source event is low up (c world steady n free low up)
  in_stage t = record {
    setting = refl;
    tidy = t;
    past = past_rises world.size (inc_in world) (count_in world) (inc_in new) (count_in new) rises;
    begun = begun_rises world.size (inc_in world) (count_in world) (inc_in new) (count_in new) rises;
    met = λ m its. its;
    count = grind (arith);
    names = past_names world.size (inc_in world) (count_in world);
  }
    where
      rises : Rises (inc_in world) (count_in world) (inc_in new) (count_in new)
      rises = counts_rise world steady n stamp free source event is low up (count_in world) (λ k apart. refl) (let own : (step_work (world.hosts n).node event free).node.manager.begun ≡ (world.hosts n).node.manager.begun = t.node.count in grind (arith, own, count_is))

  pub in_next : IsTidy (d world steady n free low up) (step_work (world.hosts n).node event free) → Ends world steady n stamp free source event is low up (d world steady n free low up)
  in_next t = record {
    setting = refl;
    tidy = t;
    past = past_rises world.size (inc_in world) (bump n (count_in world)) (inc_in new) (count_in new) rises;
    begun = begun_rises world.size (inc_in world) (bump n (count_in world)) (inc_in new) (count_in new) rises;
    met = λ m its. its;
    count = grind (arith);
    names = past_names world.size (inc_in world) (bump n (count_in world));
  }
    where
      rises : Rises (inc_in world) (bump n (count_in world)) (inc_in new) (count_in new)
      rises = counts_rise world steady n stamp free source event is low up (bump n (count_in world)) (λ k apart. rw apart refl)
          (let own : (step_work (world.hosts n).node event free).node.manager.begun ≡ (world.hosts n).node.manager.begun + 1 = t.node.count in
          let here : bump n (count_in world) n ≡ count_in world n + 1 = rw (eqb-self n) refl in grind (arith, own, count_is, here))

  pub step_steady : IsSeated new → AreSoundOver new → IsSteadyWorld new
  step_steady seated sound = by (step_tidy world steady n free low up event (event_fits world steady n free low up stamp source event is) gives)
    where
      by : (IsTidy (c world steady n free low up) (step_work (world.hosts n).node event free) ⊎ IsTidy (d world steady n free low up) (step_work (world.hosts n).node event free)) → IsSteadyWorld new
      by (inl t) = stepped_steady world steady n stamp free source event is low up (c world steady n free low up) (in_stage t) seated sound
      by (inr t) = stepped_steady world steady n stamp free source event is low up (d world steady n free low up) (in_next t) seated sound

-- ---- a node stops

module _ (world : World) (steady : IsSteadyWorld world) (n stamp : ℕ) (cause : CrashCause) (log : List Record) (low : n < world.size) (up : world.channels.up n ≡ true) where
  abbrev down : World
  down = stopped world n stamp cause log

  -- of a node that is down whatever it may have begun counts as begun
  pub stop_rises : (count : ℕ → ℕ) → ((k : ℕ) → (k == n) ≡ false → count k ≡ count_in world k) → Rises (inc_in world) count (inc_in down) (count_in down)
  stop_rises count others k = by (k == n) refl
    where
      by : (b : Bool) → (k == n) ≡ b → (inc_in world k < inc_in down k) ⊎ ((inc_in world k ≡ inc_in down k) × (count k ≤ count_in down k))
      by true same = inl (let before : inc_in world k ≡ world.channels.inc k = up_one (world.channels.up k) (subst (λ (j : ℕ). world.channels.up j ≡ true) (sym (eqb-true k n same)) up) in
          let after : inc_in down k ≡ world.channels.inc k + 1 = rw same refl in grind (arith, before, after))
        where
          up_one : (b : Bool) → b ≡ true → (if b then world.channels.inc k else world.channels.inc k + 1) ≡ world.channels.inc k
          up_one b on = rw on refl
      by false apart = inr (rw apart refl, subst (λ (j : ℕ). j ≤ count_in down k) (sym (others k apart)) (let same : count_in down k ≡ count_in world k = rw apart refl in grind (arith, same)))

  pub stop_grows : Grows world down
  stop_grows = record { size = refl; rises = stop_rises (count_in world) (λ k apart. refl) }

  module _ (records : list_all (is_steady_record (may_be_known down) (world.hosts n).node.setting.node) log ≡ true) (unended : are_left_open (recovery log) ≡ true) where
    pub stop_steady : IsSeated down → AreSoundOver down → IsSteadyWorld down
    stop_steady seated sound = record {
      seated = seated;
      sound = sound;
      nodes = hosts_after world down n (stopped_host stamp log (world.hosts n)) stop_grows (λ k. refl) (λ k m off knows. knows) (λ in_run. host_now) steady.nodes;
      peers = steady.peers;
      nobody = steady.nobody;
      posted = λ p q i j. parcels_on world down stop_grows p q (world.channels.posted p q i j) (steady.posted p q i j);
      waits = λ p q. parcels_on world down stop_grows p q (world.channels.waits p q) (steady.waits p q);
      scripts = λ k below. by k ((world.clients k).at == n) (steady.scripts k below);
    }
      where
        by : (k : ℕ) (b : Bool) → list_all (is_steady_line world.size) (world.clients k).lines ≡ true → list_all (is_steady_line world.size) (if b then record (world.clients k) { is_handed = false } else world.clients k).lines ≡ true
        by k true its = its
        by k false its = its

        wide : Widens (stage_of world n) (stage_with down n (world.hosts n).node)
        wide = record { setting = refl; past = may_be_on world down stop_grows; begun = has_begun_on world down stop_grows; met = λ m its. its }

        host_now : IsSteadyHost (stage_with down n (world.hosts n).node) (stopped_host stamp log (world.hosts n))
        host_now = record {
          tidy = node_wide (stage_of world n) (stage_with down n (world.hosts n).node) wide (world.hosts n).node refl (steady.nodes n low).tidy;
          saved = (steady.nodes n low).saved;
          first = (steady.nodes n low).first;
          records = subst (λ (l : List Record). list_all (is_steady_record (may_be_known down) (world.hosts n).node.setting.node) l ≡ true) (sym (append_nil log)) records;
          waiting = refl;
          unended = unended;
        }

  -- the records that it had
  pub old_records : list_all (is_steady_record (may_be_known down) (world.hosts n).node.setting.node) ((world.hosts n).log ++ (world.hosts n).waiting) ≡ true
  old_records = all_implied (is_steady_record (may_be_known world) (world.hosts n).node.setting.node) (is_steady_record (may_be_known down) (world.hosts n).node.setting.node)
      (record_on (may_be_known world) (may_be_known down) (may_be_on world down stop_grows) (world.hosts n).node.setting.node) ((world.hosts n).log ++ (world.hosts n).waiting) (steady.nodes n low).records

  pub log_kept : list_all (is_steady_record (may_be_known down) (world.hosts n).node.setting.node) (world.hosts n).log ≡ true
  log_kept = (all_parted _ (world.hosts n).log (world.hosts n).waiting old_records).0

-- ---- a step is cut off

module _ (world : World) (steady : IsSteadyWorld world) (n stamp free : ℕ) (source : Source) (event : Event) (cause : CrashCause) (is : event_of world n stamp source ≡ Some event) (low : n < world.size) (up : world.channels.up n ≡ true)
    (gives : MachineGives event (begun (world.hosts n).node free)) where
  abbrev out : Effects
  out = effects_of (world.hosts n).node event free

  abbrev whole : List Record
  whole = (world.hosts n).log ++ ((world.hosts n).waiting ++ out.records)

  abbrev cut : List Record → World
  cut log = stopped world n stamp cause log

  me : NodeNo
  me = (world.hosts n).node.setting.node

  -- its own records
  step_records : (log : List Record) → list_all (fits_record (may_be_known (cut log)) (world.hosts n).node.setting.node) out.records ≡ true
  step_records log = by (step_tidy world steady n free low up event (event_fits world steady n free low up stamp source event is) gives)
    where
      by : (IsTidy (c world steady n free low up) (step_work (world.hosts n).node event free) ⊎ IsTidy (d world steady n free low up) (step_work (world.hosts n).node event free)) → list_all (fits_record (may_be_known (cut log)) (world.hosts n).node.setting.node) out.records ≡ true
      by (inl t) = all_implied (is_tidy_record (c world steady n free low up)) (is_tidy_record (stage_with (cut log) n (world.hosts n).node))
          (record_wide (c world steady n free low up) (stage_with (cut log) n (world.hosts n).node) (record { setting = refl; past = may_be_on world (cut log) (stop_grows world steady n stamp cause log low up); begun = has_begun_on world (cut log) (stop_grows world steady n stamp cause log low up); met = λ m its. its }))
          out.records t.out.records
      by (inr t) = all_implied (is_tidy_record (d world steady n free low up)) (is_tidy_record (stage_with (cut log) n (world.hosts n).node))
          (record_wide (d world steady n free low up) (stage_with (cut log) n (world.hosts n).node) (record { setting = refl; past = past_rises world.size (inc_in world) (bump n (count_in world)) (inc_in (cut log)) (count_in (cut log)) rises; begun = begun_rises world.size (inc_in world) (bump n (count_in world)) (inc_in (cut log)) (count_in (cut log)) rises; met = λ m its. its }))
          out.records t.out.records
        where
          rises : Rises (inc_in world) (bump n (count_in world)) (inc_in (cut log)) (count_in (cut log))
          rises = stop_rises world steady n stamp cause log low up (bump n (count_in world)) (λ k apart. rw apart refl)

  waiting_records : (log : List Record) → list_all (fits_record (may_be_known (cut log)) (world.hosts n).node.setting.node) (world.hosts n).waiting ≡ true
  waiting_records log = all_implied (is_tidy_record (stage_of world n)) (is_tidy_record (stage_with (cut log) n (world.hosts n).node))
      (record_wide (stage_of world n) (stage_with (cut log) n (world.hosts n).node) (record { setting = refl; past = may_be_on world (cut log) (stop_grows world steady n stamp cause log low up); begun = has_begun_on world (cut log) (stop_grows world steady n stamp cause log low up); met = λ m its. its }))
      (world.hosts n).waiting (steady.nodes n low).waiting

  batch : (log : List Record) → list_all (fits_record (may_be_known (cut log)) (world.hosts n).node.setting.node) ((world.hosts n).waiting ++ out.records) ≡ true
  batch log = all_joined (fits_record (may_be_known (cut log)) (world.hosts n).node.setting.node) (world.hosts n).waiting out.records (waiting_records log) (step_records log)

  whole_records : list_all (is_steady_record (may_be_known (cut whole)) (world.hosts n).node.setting.node) whole ≡ true
  whole_records = all_joined (is_steady_record (may_be_known (cut whole)) (world.hosts n).node.setting.node) (world.hosts n).log ((world.hosts n).waiting ++ out.records) (log_kept world steady n stamp cause whole low up)
      (all_implied (fits_record (may_be_known (cut whole)) (world.hosts n).node.setting.node) (is_steady_record (may_be_known (cut whole)) (world.hosts n).node.setting.node) (record_steady (may_be_known (cut whole)) (world.hosts n).node.setting.node) ((world.hosts n).waiting ++ out.records) (batch whole))

  whole_unended : are_left_open (recovery whole) ≡ true
  whole_unended = unended_said (after_step (world.hosts n).node event free) (recovery whole) sound said
      (named_behind (may_be_known (cut whole)) (world.hosts n).node.setting.node (past_names world.size (inc_in (cut whole)) (count_in (cut whole))) (world.hosts n).log ((world.hosts n).waiting ++ out.records) (steady.nodes n low).unended (batch whole))
    where
      may : Rattle.qs_world_refine.specs.SoundSteps.MayHappen event (begun (world.hosts n).node free)
      may = comes_may world steady n free low up event (event_fits world steady n free low up stamp source event is) gives

      opened : commands_in_run (settled (world.hosts n).node event free).node ≡ true
      opened = (step_open (world.hosts n).node event free may (comes_new world steady n free low up event) (steady.sound n low).node (open_at world steady n low)).0

      sound : is_sound (after_step (world.hosts n).node event free) ≡ true
      sound = step_sound (world.hosts n).node event free may opened (steady.sound n low).node

      said : is_sound_said (after_step (world.hosts n).node event free) (recovery whole) ≡ true
      said = subst (λ (l : List Record). is_sound_said (after_step (world.hosts n).node event free) (recovery l) ≡ true) (append_three (world.hosts n).log (world.hosts n).waiting out.records)
          (step_said (world.hosts n).node event free ((world.hosts n).log ++ (world.hosts n).waiting) may (comes_new world steady n free low up event) opened (steady.sound n low).node ((steady.sound n low).runs up))

  pub cut_steady : (is_kept : Bool) → IsSeated (cut (cut_log (world.hosts n) is_kept out)) → AreSoundOver (cut (cut_log (world.hosts n) is_kept out)) → IsSteadyWorld (cut (cut_log (world.hosts n) is_kept out))
  cut_steady false seated sound = stop_steady world steady n stamp cause (world.hosts n).log low up (log_kept world steady n stamp cause (world.hosts n).log low up) (steady.nodes n low).unended seated sound
  cut_steady true seated sound = by out.force seated sound
    where
      by : (b : Bool) → IsSeated (cut (if b then whole else (world.hosts n).log)) → AreSoundOver (cut (if b then whole else (world.hosts n).log)) → IsSteadyWorld (cut (if b then whole else (world.hosts n).log))
      by true seated sound = stop_steady world steady n stamp cause whole low up whole_records whole_unended seated sound
      by false seated sound = stop_steady world steady n stamp cause (world.hosts n).log low up (log_kept world steady n stamp cause (world.hosts n).log low up) (steady.nodes n low).unended seated sound
