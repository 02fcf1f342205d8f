-- Each node of a run goes on with the quota and the audit node that it began with: through steps, crashes and restarts.
use Rattle.std.proofs.Common.{◌≡◌, ◌∙◌, ℕ, ◌==◌, Bool, true, false, List, [], ◌∷◌, Option, Some, None, refl, sym, ap, subst}
use Rattle.std.proofs.lemmas.Bool.{eqb-true}
use Rattle.std.specs.Prelude.{fold, if◌then◌else◌}
use Rattle.qs_base.specs.declared.identifiers.Tid.{Tid}
use Rattle.qs_book_journal.specs.declared.entry.CrashCause.{CrashCause}
use Rattle.qs_ops.specs.Server.{ServerValue, after_keeping, is_logged}
use Rattle.qs_ops.specs.Table.{kept}
use Rattle.qs_ops.specs.declared.operation.Op.{Op}
use Rattle.qs_ops.specs.declared.server.ServerKind.{ServerKind}
use Rattle.qs_ops.specs.declared.server.ServerKind.TheVariants as kinds
use Rattle.qs_record.specs.declared.record.Record.{Record}
use Rattle.qs_record.specs.declared.record.Record.TheVariants as records
use Rattle.qs_restart.specs.declared.recovered.Recovered.{Recovered}
use Rattle.qs_node_servers.specs.Servers.{ServersValue}
use Rattle.qs_node_step.specs.Opening.{keep_changes, opened_servers, recovered_of}
use Rattle.qs_node_step.specs.State.{NodeValue}
use Rattle.qs_node_step.specs.Step.{after_step}
use Rattle.qs_node_step.specs.declared.event.Event.{Event}
use Rattle.qs_node_step.specs.declared.setting.Setting.{Setting}
use Rattle.qs_world.specs.Moves.{Cut, Meet, Rise, Source, Step, Stop, cut_with, event_of, reopened, step_with}
use Rattle.qs_world.specs.World.{Host, Opening, World}
use Rattle.qs_world_filed.specs.Settings.{IsSetAs, MovesKeepSet, OpensSet, SetAt}
use Rattle.qs_world_filed.proofs.SetTable.{files_kind, set_after}

-- ---- as an incarnation begins

keeping_kind : (tid : Tid) (changes : List Op) (value : ServerValue) → (after_keeping value tid changes).kind ≡ value.kind
keeping_kind tid changes value = by (is_logged value.kind)
  where
    by : (b : Bool) → ◌≡◌ {A = ServerKind} (if b then record value { table = kept value.table (record { tid = tid; changes = changes }) } else value).kind value.kind
    by true = refl
    by false = refl

found_kind : (found : List Record) (servers : ServersValue) → (fold keep_changes servers found).files.kind ≡ servers.files.kind
found_kind [] servers = refl
found_kind (records.Prepare tid server covers changes ∷ found) servers =
    found_kind found (keep_changes servers (records.Prepare tid server covers changes)) ∙ files_kind server (λ value. after_keeping value tid changes) (keeping_kind tid changes) servers
found_kind (records.Commit tid told ∷ found) servers = found_kind found servers
found_kind (records.Aborted tid ∷ found) servers = found_kind found servers
found_kind (records.End tid ∷ found) servers = found_kind found servers

opened_kind : (quota : ℕ) (found : Recovered) → (fold keep_changes (opened_servers quota found) found.in_doubt).files.kind ≡ kinds.Files quota
opened_kind quota found = found_kind found.in_doubt (opened_servers quota found)

pub opens_set : OpensSet
opens_set o n = record { audit = refl; quota = refl; files = opened_kind (o.settings n).quota (recovered_of (o.logs n)) }

-- ---- a move

stepped : (setting : Setting) (node : NodeValue) (event : Event) (free : ℕ) → IsSetAs setting node → IsSetAs setting (after_step node event free)
stepped setting node event free its = let after = set_after node event free its.files in record {
  audit = ap (λ (t : Setting). t.audit) after.same ∙ its.audit;
  quota = ap (λ (t : Setting). t.quota) after.same ∙ its.quota;
  files = after.files ∙ ap (λ (t : Setting). kinds.Files t.quota) (sym after.same);
}

risen : (setting : Setting) (node : NodeValue) (inc : ℕ) (found : Recovered) → IsSetAs setting node → IsSetAs setting (reopened inc found node)
risen setting node inc found its = record { audit = its.audit; quota = its.quota; files = opened_kind node.setting.quota found }

-- one host of a world is another
picked : (o : Opening) (world : World) (n : ℕ) (host : Host) → SetAt o world → IsSetAs (o.settings n) host.node → (k : ℕ) → IsSetAs (o.settings k) (if k == n then host else world.hosts k).node
picked o world n host all its k = by (k == n) refl
  where
    by : (b : Bool) → (k == n) ≡ b → IsSetAs (o.settings k) (if b then host else world.hosts k).node
    by true is = subst (λ (i : ℕ). IsSetAs (o.settings i) host.node) (sym (eqb-true k n is)) its
    by false is = all k

step_set : (o : Opening) (world : World) (n stamp free : ℕ) (source : Source) (e : Option Event) → SetAt o world → SetAt o (step_with world n stamp free source e)
step_set o world n stamp free source None all = all
step_set o world n stamp free source (Some event) all = picked o world n _ all (stepped (o.settings n) (world.hosts n).node event free (all n))

cut_set : (o : Opening) (world : World) (n stamp free : ℕ) (is_kept : Bool) (cause : CrashCause) (e : Option Event) → SetAt o world → SetAt o (cut_with world n stamp free is_kept cause e)
cut_set o world n stamp free is_kept cause None all = all
cut_set o world n stamp free is_kept cause (Some event) all = picked o world n _ all (all n)

pub moves_keep_set : MovesKeepSet
moves_keep_set o world (Step n stamp free source) all = step_set o world n stamp free source (event_of world n stamp source) all
moves_keep_set o world (Cut n stamp free source is_kept cause) all = cut_set o world n stamp free is_kept cause (event_of world n stamp source) all
moves_keep_set o world (Stop n stamp cause) all = picked o world n _ all (all n)
moves_keep_set o world (Rise n stamp inc) all = picked o world n _ all (risen (o.settings n) (world.hosts n).node inc (recovered_of (world.hosts n).log) (all n))
moves_keep_set o world (Meet n stamp m inc) all = picked o world n _ all (all n)
