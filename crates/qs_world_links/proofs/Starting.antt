-- A restart and a start: they put nothing to the links of their node, and take nothing.
use Rattle.std.proofs.Common.{◌≡◌, ◌∙◌, ap, refl, subst, sym, ℕ, Bool, List, [], ◌∷◌, ◌++◌, append-nil}
use Rattle.std.specs.Prelude.{None, Result}
use Rattle.std.specs.Global.{Global}
use Rattle.std.specs.List.{filter, flat_map}
use Rattle.std.proofs.lemmas.List.Elements.{All-nil, All-same}
use Rattle.qs_base.specs.declared.identifiers.NodeNo.{NodeNo}
use Rattle.qs_cell.specs.Hearing.{Post}
use Rattle.qs_cell.specs.Restart.{IsRestarted, IsStillDown, IsUp, inc_of}
use Rattle.qs_cell.specs.Starts.{CellValue}
use Rattle.qs_cell.specs.State.{StartsAgain, Up, state_after}
use Rattle.qs_cell.specs.WholeVisits.{steps_in}
use Rattle.qs_cell.specs.declared.starting.NodePlan.{NodePlan}
use Rattle.qs_cell.specs.declared.state.CellState.{CellState}
use Rattle.qs_cell.specs.declared.state.CellState.TheVariants as states
use Rattle.qs_cell.specs.declared.state.RestartFault.{RestartFault}
use Rattle.qs_cell.specs.declared.stopped.Restarted as stopped
use Rattle.qs_cell.specs.declared.stopped.Restarted.TheVariants as restarts
use Rattle.qs_cell.specs.declared.stopped.Stopped.{Stopped}
use Rattle.qs_cell_chronicle.specs.Carried.{Seen}
use Rattle.qs_cell_chronicle.specs.Chronicle.{Told, in_round, stamped, step_of}
use Rattle.qs_cell_peers.specs.Links.{LinksValue, into_of, out_of}
use Rattle.qs_cell_peers.specs.Peers.{is_to}
use Rattle.qs_disk.specs.Disk.{DiskState}
use Rattle.qs_files.specs.declared.files.Files.{Files}
use Rattle.qs_link.specs.Lane.{Drawn}
use Rattle.qs_link.specs.Plan.{PutNone}
use Rattle.qs_link.specs.Planned.{PutAll}
use Rattle.qs_link.specs.declared.ends.NodeEnds.{NodeEnds}
use Rattle.qs_node_step.specs.declared.setting.Setting.{Setting}
use Rattle.qs_node_step.specs.declared.trace.Did.TheVariants as dids
use Rattle.qs_node_step.specs.declared.trace.Step.{Step}
use Rattle.qs_ops.specs.declared.no_server.NoServer.{NoServer}
use Rattle.qs_packet.specs.declared.packet.Packet.{Packet}
use Rattle.qs_world_links.proofs.Adding.{trace_stamped}
use Rattle.qs_world_links.proofs.Ends.{none_drawn, none_put}
use Rattle.qs_world_links.proofs.Hearing.{post_of_node}
use Rattle.qs_world_links.specs.Between.{IsFrom}
use Rattle.qs_world_links.specs.Posts.{IsOfNode, IsPostOf, TellsOfLinks}
use Rattle.qs_world_links.specs.Telling.{RestartTells, StartTells}
use Rattle.qs_world_traces.specs.Links.{is_from, puts_of, takes_of}

-- nothing was put, and nothing taken
quiet : {D : Type 0} (nodes n : ℕ) (old new : Post D) (steps : List Step) → steps_in new.seat.node ≡ steps_in old.seat.node ++ steps → flat_map puts_of steps ≡ [] → flat_map takes_of steps ≡ [] → new.links ≡ old.links
    → IsPostOf nodes n old → IsOfNode nodes n new.seat.node → TellsOfLinks nodes n old new
quiet nodes n old new steps trace no_puts no_takes same of node = record {
  steps = steps;
  trace = trace;
  from = All-same (IsFrom n) (flat_map puts_of steps) [] no_puts (All-nil (IsFrom n));
  put = λ m peer. subst (λ (l : List Packet). PutAll (filter (is_to m) l) (out_of old.links m) (out_of new.links m)) (sym no_puts)
      (subst (λ (l : LinksValue). PutNone (out_of old.links m) (out_of l m)) (sym same) (none_put (out_of old.links m)));
  took = λ named m peer. subst (λ (l : List Packet). Drawn (filter (is_from m) l) (into_of old.links m) (into_of new.links m)) (sym no_takes)
      (subst (λ (l : LinksValue). Drawn [] (into_of old.links m) (into_of l m)) (sym same) (none_drawn (into_of old.links m)));
  rings = λ m peer. ap (λ (l : LinksValue). (into_of l m).ring) same;
  post = post_of_node nodes n old new of (record { size = ap (λ (l : LinksValue). l.size) same; me = ap (λ (l : LinksValue). l.me) same }) node;
}

-- what a start again adds to the trace
pub record Restarted {D : Type 0} (nodes n : ℕ) (old new : CellState D) : Type 0 where
  pub steps : List Step
  pub trace : steps_in new ≡ steps_in old ++ steps
  pub no_puts : flat_map puts_of steps ≡ []
  pub no_takes : flat_map takes_of steps ≡ []
  pub node : IsOfNode nodes n new

module _ {D : Type 0} (nodes n : ℕ) where
  rises : (alloc : Global) (old : Stopped D) (new : Up D) → IsUp alloc old new → IsOfNode nodes n (states.Down old) → Restarted nodes n (states.Down old) (states.Up new)
  rises alloc old new is of = record {
    steps = step_of risen_told (dids.Restart (inc_of new.host.log)) [] None ∷ [];
    trace = ap (λ (s : Seen). s.told.trace) is.seen ∙ ap (λ (l : List Step). l ++ step_of risen_told (dids.Restart (inc_of new.host.log)) [] None ∷ []) (trace_stamped (in_round old.carried.chronicle.told));
    no_puts = refl;
    no_takes = refl;
    node = record {
      count = count;
      number = number;
      sessions = (is.sessions.size ∙ count, ap (λ (m : NodeNo). m.0) is.sessions.me ∙ number);
    };
  }
    where
      risen_told : Told
      risen_told = stamped (in_round old.carried.chronicle.told)

      count : new.carried.setting.nodes ≡ nodes
      count = ap (λ (s : Setting). s.nodes) is.setting ∙ of.count

      number : new.carried.setting.node.0 ≡ n
      number = ap (λ (s : Setting). s.node.0) is.setting ∙ of.number

  stays_down : (old new : Stopped D) → IsStillDown old new → IsOfNode nodes n (states.Down old) → Restarted nodes n (states.Down old) (states.Down new)
  stays_down old new is of = record {
    steps = [];
    trace = ap (λ (s : Seen). s.told.trace) is.seen ∙ sym (append-nil old.carried.chronicle.told.trace);
    no_puts = refl;
    no_takes = refl;
    node = record { count = ap (λ (s : Setting). s.nodes) is.setting ∙ of.count; number = ap (λ (s : Setting). s.node.0) is.setting ∙ of.number; sessions = tt };
  }

  restarted_as : (own : D → ℕ) (alloc : Global) (old : Stopped D) (restarted : stopped.Restarted D Files NoServer) → IsRestarted own alloc old restarted → IsOfNode nodes n (states.Down old) → Restarted nodes n (states.Down old) (state_after restarted)
  restarted_as own alloc old (restarts.Up new) is of = rises alloc old new is of
  restarted_as own alloc old (restarts.Down new why) is of = stays_down old new is.0 of

  pub starts_again : (told : Type 0) (state : D → DiskState) (own size : D → ℕ) (alloc : Global) (old new : CellState D) (answer : Result Bool RestartFault) → StartsAgain told state own size alloc old new answer → IsOfNode nodes n old → Restarted nodes n old new
  starts_again told state own size alloc (states.Up old) new answer (same, said) of = subst (λ (s : CellState D). Restarted nodes n (states.Up old) s) (sym same)
      (record { steps = []; trace = sym (append-nil old.carried.chronicle.told.trace); no_puts = refl; no_takes = refl; node = of })
  starts_again told state own size alloc (states.Down old) new answer r of = subst (λ (s : CellState D). Restarted nodes n (states.Down old) s) (sym r.node) (restarted_as own alloc old r.restarted r.is of)

pub each_restart : {D : Type 0} (told : Type 0) (state : D → DiskState) (own size : D → ℕ) (alloc : Global) (nodes n : ℕ) (old new : Post D) (answer : Result Bool RestartFault) → RestartTells told state own size alloc nodes n old new answer
each_restart told state own size alloc nodes n old new answer starts same of =
    let r = starts_again nodes n told state own size alloc old.seat.node new.seat.node answer starts of.node in
    quiet nodes n old new r.steps r.trace r.no_puts r.no_takes same of r.node

-- ---- a start

pub each_start : {D : Type 0} (told : Type 0) (state : D → DiskState) (n : ℕ) (alloc : Global) (disk : D) (setting : Setting) (links : LinksValue) (ends : List NodeEnds) (plan : NodePlan) (new : CellValue D)
    → StartTells told state n alloc disk setting links ends plan new
each_start {D} told state n alloc disk setting links ends plan new started number size me = (
  record {
    node = subst (λ (s : CellState D). IsOfNode setting.nodes n s) (sym started.node) (record {
      count = count;
      number = is_number;
      sessions = (started.begins.sessions.size ∙ count, ap (λ (m : NodeNo). m.0) started.begins.sessions.me ∙ is_number);
    });
    size = ap (λ (l : LinksValue). l.size) started.links_are ∙ size;
    me = ap (λ (l : LinksValue). l.me.0) started.links_are ∙ me;
  },
  (ap (λ (s : CellState D). steps_in s) started.node ∙ ap (λ (s : Seen). s.told.trace) started.begins.seen, started.links_are),
)
  where
    count : started.running.carried.setting.nodes ≡ setting.nodes
    count = ap (λ (s : Setting). s.nodes) started.begins.setting

    is_number : started.running.carried.setting.node.0 ≡ n
    is_number = ap (λ (s : Setting). s.node.0) started.begins.setting ∙ number
