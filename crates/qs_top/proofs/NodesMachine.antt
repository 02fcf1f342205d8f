-- The reference machine over what the logs of many nodes held opens as the world of the run does; and the disks of the sites as they are left.
use Rattle.std.proofs.Common.{◌≡◌, ◌∙◌, ap, refl, subst, sym, ℕ, zero, suc, ◌+◌, ◌<◌, List, [], ◌∷◌, ◌++◌, length, map, Some, Result, Ok, append-nil, arith, slice_get}
use Rattle.qs_base.specs.declared.memory.NoMemory.{NoMemory}
use Rattle.qs_base_lemmas.proofs.Tests.{is_zero_plus}
use Rattle.qs_book_machine.specs.Opening.{opening}
use Rattle.qs_book_machine.specs.declared.opened.Opened.{Opened}
use Rattle.qs_book_script.specs.declared.script.Script.{Script}
use Rattle.qs_cell.specs.Starts.{setting_in}
use Rattle.qs_disk.specs.Disk.{DiskState}
use Rattle.qs_disk.specs.Fuse.{FusedValue}
use Rattle.qs_log.specs.Log.{LogValue}
use Rattle.qs_node_step.specs.Opening.{recovered_of}
use Rattle.qs_node_step.specs.declared.setting.Setting.{Setting}
use Rattle.qs_record.specs.declared.record.Record.{Record}
use Rattle.qs_top.specs.Ran.{machine_of, opened_in}
use Rattle.qs_top.proofs.NodesTold.{map_has, map_length, sites_count}
use Rattle.qs_world.specs.Histories.{book_of, opened_from, opened_with}
use Rattle.qs_world.specs.World.{Opening}
use Rattle.qs_world_left.specs.Disks.{disk_state, disks_of}
use Rattle.qs_world_nodes.proofs.Places.{found, low_of}
use Rattle.qs_world_nodes.specs.Openings.{NodesHaveOpening, SitOnce, opening_over}
use Rattle.qs_world_plans.specs.Plan.{setting_of}
use Rattle.qs_world_rooms.specs.Rooms.{disk_size, sizes_of}
use Rattle.qs_world_rounds.specs.Rounds.{Cast}
use Rattle.qs_world_rounds.specs.Seats.{BeginsAt}
use Rattle.qs_world_rounds.specs.declared.faults.RoundFault.{RoundFault}
use Rattle.qs_world_rounds.specs.declared.rounds.Ending.{Ending}
use Rattle.qs_world_seats.specs.Sites.{OpensSite}
use Rattle.qs_world_serial.specs.Serial.{HasRun}
use Rattle.qs_world_serial.specs.declared.serial.SiteTold.{SiteTold}

-- ---- lists

from_same : (o : Opening) (k : ℕ) (list : List Opened) → ((n : ℕ) (x : Opened) → slice_get list n ≡ Some x → x ≡ opened_with (o.settings (k + n)) (recovered_of (o.logs (k + n)))) → opened_from o k (length list) ≡ list
from_same o k [] each = refl
from_same o k (x ∷ list) each = ap (λ (y : Opened). y ∷ opened_from o (k + 1) (length list)) (sym (first (each zero x refl)))
    ∙ ap (λ (l : List Opened). x ∷ l) (from_same o (k + 1) list (λ n y is. further n y (each (suc n) y is)))
  where
    at : (y : Opened) (a b : ℕ) → a ≡ b → y ≡ opened_with (o.settings a) (recovered_of (o.logs a)) → y ≡ opened_with (o.settings b) (recovered_of (o.logs b))
    at y a b same is = subst (λ (c : ℕ). y ≡ opened_with (o.settings c) (recovered_of (o.logs c))) same is

    first : x ≡ opened_with (o.settings (k + zero)) (recovered_of (o.logs (k + zero))) → x ≡ opened_with (o.settings k) (recovered_of (o.logs k))
    first is = at x (k + zero) k (omega arith) is

    further : (n : ℕ) (y : Opened) → y ≡ opened_with (o.settings (k + suc n)) (recovered_of (o.logs (k + suc n))) → y ≡ opened_with (o.settings ((k + 1) + n)) (recovered_of (o.logs ((k + 1) + n)))
    further n y is = at y (k + suc n) ((k + 1) + n) (omega arith) is

same_maps : {A B C : Type 0} (f : A → C) (g : B → C) (xs : List A) (ys : List B) → length ys ≡ length xs → ((n : ℕ) (a : A) (b : B) → slice_get xs n ≡ Some a → slice_get ys n ≡ Some b → f a ≡ g b) → map f xs ≡ map g ys
same_maps f g [] [] count each = refl
same_maps f g [] (y ∷ ys) count each = absurd (cc count)
same_maps f g (x ∷ xs) [] count each = absurd (cc count)
same_maps f g (x ∷ xs) (y ∷ ys) count each = ap (λ (c : _). c ∷ map f xs) (each zero x y refl refl) ∙ ap (λ (l : List _). g y ∷ l) (same_maps f g xs ys (omega (arith, count)) (λ n. each (suc n)))

-- ---- of a run

-- the disks that are left are those of the sites
pub left_states : {D : Type 0} (told : Type 0) (state : D → DiskState) (own size : D → ℕ) (script : Script) (seed : ℕ) (ending : Result Ending RoundFault) (tells : Result (List SiteTold) NoMemory) (disks afters : List D)
    (ran : HasRun told state own size script seed ending tells disks afters) → map state afters ≡ disks_of state ran.last.sites
left_states told state own size script seed ending tells disks afters ran =
    sym (same_maps (disk_state state) state ran.last.sites afters ran.leaves.count (λ n site after is at. sym (ap state (ran.leaves.each n site after is at).disk)))

-- the numbers of their bytes, as the nodes began and as they are left
module _ {D : Type 0} (told : Type 0) (state : D → DiskState) (own size : D → ℕ) (script : Script) (seed : ℕ) (ending : Result Ending RoundFault) (tells : Result (List SiteTold) NoMemory) (disks afters : List D) (ran : HasRun told state own size script seed ending tells disks afters) where
  pub begun_sizes : map size disks ≡ sizes_of size ran.first.sites
  begun_sizes = same_maps size (disk_size size) disks ran.first.sites ran.bytes.count (λ n disk site is at. sym (ran.bytes.each n disk site is at))

  pub left_sizes : map size afters ≡ sizes_of size ran.last.sites
  left_sizes = sym (same_maps (disk_size size) size ran.last.sites afters ran.leaves.count (λ n site after is at. sym (ap size (ran.leaves.each n site after is at).disk)))

module _ {D : Type 0} (told : Type 0) (state : D → DiskState) (own size : D → ℕ) (script : Script) (seed : ℕ) (ending : Result Ending RoundFault) (tells : List SiteTold) (disks afters : List D) (ran : HasRun told state own size script seed ending (Ok tells) disks afters) where
  module _ (t : told) (once : SitOnce script.seats) (opens : NodesHaveOpening told state own ran.alloc script disks ran.first) where
    abbrev o : Opening
    o = opening_over ran.alloc script disks ran.first.sites

    -- no record waits behind those of the batches
    all_forced : (log : LogValue (FusedValue D)) → log.waiting ≡ [] → log.forced ≡ log.forced ++ log.waiting
    all_forced log none = sym (ap (λ (l : List Record). log.forced ++ l) none ∙ append-nil log.forced)

    began : (n : ℕ) (disk : D) (site : Cast D) → slice_get disks n ≡ Some disk → slice_get ran.first.sites n ≡ Some site → site.node.opened ≡ opened_with (o.settings n) (recovered_of (o.logs n))
    began n disk site of_disk there = at (ran.begins.each n disk site of_disk there) ((opens ran.begins once).sites n disk site of_disk there)
      where
        at : (b : BeginsAt told state own ran.alloc script (length disks) (record { 0 = n }) disk site)
            → OpensSite ran.alloc n (setting_of script (length disks) (record { 0 = n }) 0) script site.clients (ran.begins.each n disk site of_disk there).started.running.host.log o
            → site.node.opened ≡ opened_with (o.settings n) (recovered_of (o.logs n))
        at b so = is.started.opened
            ∙ (ap (λ (r : _). opened_with setting (recovered_of r)) (sym (all_forced log (is.started.raised t).waiting))
            ∙ (ap (λ (r : List Record). opened_with setting (recovered_of r)) (sym so.node.log_is) ∙ ap (λ (s : Setting). opened_with s (recovered_of (o.logs n))) (sym so.node.setting_is)))
          where
            is : BeginsAt told state own ran.alloc script (length disks) (record { 0 = n }) disk site
            is = ran.begins.each n disk site of_disk there

            log : LogValue (FusedValue D)
            log = is.started.running.host.log

            setting : Setting
            setting = setting_in log (setting_of script (length disks) (record { 0 = n }) 0)

    list_is : opened_from o 0 (length disks) ≡ map opened_in tells
    list_is = subst (λ (k : ℕ). opened_from o 0 k ≡ map opened_in tells) long (from_same o 0 (map opened_in tells) each)
      where
        long : length (map opened_in tells) ≡ length disks
        long = map_length opened_in tells ∙ (ran.tells_is.count ∙ sites_count told state own size script seed ending tells disks afters ran)

        each : (n : ℕ) (x : Opened) → slice_get (map opened_in tells) n ≡ Some x → x ≡ opened_with (o.settings (0 + n)) (recovered_of (o.logs (0 + n)))
        each n x is = by (map_has opened_in tells n x is)
          where
            low : n < length disks
            low = omega (arith, low_of (map opened_in tells) n x is, long)

            at_zero : x ≡ opened_with (o.settings n) (recovered_of (o.logs n)) → x ≡ opened_with (o.settings (0 + n)) (recovered_of (o.logs (0 + n)))
            at_zero so = subst (λ (k : ℕ). x ≡ opened_with (o.settings k) (recovered_of (o.logs k))) (is_zero_plus n) so

            sites : (one : SiteTold) → slice_get tells n ≡ Some one → opened_in one ≡ x → (disk : D) × (slice_get disks n ≡ Some disk) → (first : Cast D) × (slice_get ran.first.sites n ≡ Some first)
                → (last : Cast D) × (slice_get ran.last.sites n ≡ Some last) → x ≡ opened_with (o.settings n) (recovered_of (o.logs n))
            sites one told_so same (disk, of_disk) (first, first_is) (last, last_is) = sym same ∙ ((ran.tells_is.each n last one last_is told_so).opened ∙ ((ran.stays.each n first last first_is last_is).start.opened ∙ began n disk first of_disk first_is))

            by : (one : SiteTold) × ((slice_get tells n ≡ Some one) × (opened_in one ≡ x)) → x ≡ opened_with (o.settings (0 + n)) (recovered_of (o.logs (0 + n)))
            by (one, (told_so, same)) = at_zero (sites one told_so same (found disks n low) (found ran.first.sites n (omega (arith, low, ran.begins.count)))
                (found ran.last.sites n (omega (arith, low, sites_count told state own size script seed ending tells disks afters ran))))

    pub machine_is : book_of o ≡ machine_of tells
    machine_is = ap opening list_is
