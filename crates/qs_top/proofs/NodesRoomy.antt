-- A run of many nodes leaves the room in the log of each that it had, however it ended.
use Rattle.std.proofs.Common.{◌≡◌, ◌⊎◌, ◌∙◌, ap, inl, inr, refl, subst, sym, ℕ, ◌<◌, List, length, map, Option, Some, Result, Ok, Err, option_map, arith, slice_get}
use Rattle.std.proofs.lemmas.Option.{slice_get-map, slice_get_within}
use Rattle.std.specs.Global.{Global}
use Rattle.qs_base.specs.declared.identifiers.NodeNo.{NodeNo}
use Rattle.qs_base.specs.declared.memory.NoMemory.{NoMemory}
use Rattle.qs_book_script.specs.declared.script.Script.{Script}
use Rattle.qs_disk.specs.Disk.{DiskState}
use Rattle.qs_text.specs.declared.given.Shown.{Shown}
use Rattle.qs_top.specs.Inner.CameTo.{CameTo, HasRunSo}
use Rattle.qs_top.specs.Inner.OverNodes.{IsOverNodes}
use Rattle.qs_top.specs.Disks.{StayRoomy}
use Rattle.qs_top.specs.declared.whole.RunMade.{RunMade}
use Rattle.qs_top.proofs.Coherent.{touched_roomy}
use Rattle.qs_top.proofs.NodesCame.{came_to}
use Rattle.qs_top.proofs.NodesTraced.{NodesLaws, logs_coherent}
use Rattle.qs_top.proofs.NodesLeft.{each_of}
use Rattle.qs_top.proofs.NodesMachine.{begun_sizes, left_sizes, left_states}
use Rattle.qs_top.proofs.NodesTold.{map_has}
use Rattle.qs_world_left.specs.Disks.{AreCoherentDisks}
use Rattle.qs_world_left.specs.Left.{AreReadAsLeft}
use Rattle.qs_world_nodes.proofs.Places.{found, same_some}
use Rattle.qs_world_nodes.specs.Openings.{SitOnce}
use Rattle.qs_world_one.specs.Rooms.{IsRoomyDisk}
use Rattle.qs_world_opening.specs.Scripts.{Fits}
use Rattle.qs_world_rooms.specs.Leaving.{BeginsRoomy, CutShortLeavesRoom, EndingsLeaveRoom, LeaveRoom, RefusedLeavesRoom}
use Rattle.qs_world_rooms.specs.Rooms.{AreRoomyContents, AreRoomyDisks, RoomyAreRead, sizes_of}
use Rattle.qs_world_rounds.specs.declared.faults.RoundFault.{RoundFault}
use Rattle.qs_world_rounds.specs.declared.faults.RoundFault.TheVariants as faults
use Rattle.qs_world_rounds.specs.declared.rounds.Ending.{Ending}
use Rattle.qs_world_serial.specs.Serial.{EachBeside, HasRun, IsTouchedDisk, IsTouchedUpTo}
use Rattle.qs_world_serial.specs.declared.serial.SiteTold.{SiteTold}
use Rattle.qs_world_sites.specs.Sites.{SitesValue}

mapped : {A B : Type 0} (f : A → B) (xs : List A) (n : ℕ) (x : A) → slice_get xs n ≡ Some x → slice_get (map f xs) n ≡ Some (f x)
mapped f xs n x is = slice_get-map f xs n ∙ ap (λ (a : Option _). option_map f a) is

-- the laws of room
pub record RoomLaws {D : Type 0} (told : Type 0) (state : D → DiskState) (own size : D → ℕ) : Type 0 where
  pub ends : (alloc : Global) (script : Script) (disks : List D) (seed : ℕ) (all new : SitesValue D) (ending : Ending) → EndingsLeaveRoom told state own size alloc script disks seed all new ending
  pub cut : (alloc : Global) (script : Script) (disks : List D) (seed : ℕ) (node : NodeNo) (all new : SitesValue D) → CutShortLeavesRoom told state own size alloc script disks seed node all new
  pub refused : (alloc : Global) (script : Script) (disks : List D) (seed : ℕ) (all new : SitesValue D) → RefusedLeavesRoom told state own size alloc script disks seed all new
  pub read : (sizes : List ℕ) (disks : List DiskState) → RoomyAreRead sizes disks

module _ {D : Type 0} (told : Type 0) (state : D → DiskState) (own size : D → ℕ) (script : Script) (seed nodes : ℕ) (disks afters : List D) (count : length disks ≡ nodes) (once : SitOnce script.seats) (fits : Fits nodes script)
    (read : told → AreReadAsLeft (map state disks)) (laws : NodesLaws told state own size) (rooms : RoomLaws told state own size) where
  abbrev Ran : Result Ending RoundFault → Result (List SiteTold) NoMemory → Type 0
  Ran ending tells = HasRun told state own size script seed ending tells disks afters

  module _ (ending : Result Ending RoundFault) (tells : Result (List SiteTold) NoMemory) (ran : Ran ending tells) (t : told) (coherent : AreCoherentDisks (map state disks)) (roomy : AreRoomyDisks (map size disks) (map state disks)) where
    begins : BeginsRoomy told state own size ran.alloc script disks ran.first
    begins = record {
      begun = ran.begins;
      once = once;
      fits = subst (λ (k : ℕ). Fits k script) (sym count) fits;
      coherent = logs_coherent told state own size script disks read laws ran.alloc ran.first ran.begins t coherent;
      roomy = subst (λ (sizes : List ℕ). AreRoomyContents sizes (map state disks)) (begun_sizes told state own size script seed ending tells disks afters ran)
          (rooms.read (map size disks) (map state disks) (read t) roomy);
    }

    left : LeaveRoom state size ran.last.sites → AreRoomyDisks (map size afters) (map state afters)
    left leave = subst (λ (sizes : List ℕ). AreRoomyDisks sizes (map state afters)) (sym (left_sizes told state own size script seed ending tells disks afters ran))
        (subst (AreRoomyDisks (sizes_of size ran.last.sites)) (sym (left_states told state own size script seed ending tells disks afters ran)) leave.disks)

  -- the nodes ran
  ran_roomy : (ending : Result Ending RoundFault) (tells : Result (List SiteTold) NoMemory) → Ran ending tells → StayRoomy told state size disks afters
  ran_roomy (Ok ending) tells ran t coherent roomy = left (Ok ending) tells ran t coherent roomy
      (rooms.ends ran.alloc script disks seed ran.first ran.last ending t (begins (Ok ending) tells ran t coherent roomy) ran.ends)
  ran_roomy (Err (faults.DiskFault node)) tells ran t coherent roomy = left (Err (faults.DiskFault node)) tells ran t coherent roomy
      (rooms.cut ran.alloc script disks seed node ran.first ran.last t (begins (Err (faults.DiskFault node)) tells ran t coherent roomy) (ran.cut node refl))
  ran_roomy (Err faults.NoMemory) tells ran t coherent roomy = left (Err faults.NoMemory) tells ran t coherent roomy
      (rooms.refused ran.alloc script disks seed ran.first ran.last t (begins (Err faults.NoMemory) tells ran t coherent roomy) (ran.refused refl))
  ran_roomy (Err faults.Damaged) tells ran t coherent roomy = absurd (ran.undamaged t fits.few refl)

  -- disks were raised at most
  touched_stay : EachBeside (λ n. IsTouchedDisk told state size) disks afters → StayRoomy told state size disks afters
  touched_stay each t coherent roomy n bytes b bytes_is b_is = by (map_has size afters n bytes bytes_is) (map_has state afters n b b_is)
    where
      by : (x : D) × ((slice_get afters n ≡ Some x) × (size x ≡ bytes)) → (y : D) × ((slice_get afters n ≡ Some y) × (state y ≡ b)) → IsRoomyDisk bytes b
      by (x, (x_is, same_bytes)) (y, (y_is, same_state)) = of_disk (found disks n (low (slice_get_within afters n x x_is)))
        where
          low : n < length afters → n < length disks
          low is = omega (arith, is, each.count)

          of_disk : (d : D) × (slice_get disks n ≡ Some d) → IsRoomyDisk bytes b
          of_disk (d, d_is) = subst (λ (k : ℕ). IsRoomyDisk k b) (sym touched.bytes ∙ (ap size (same_some y x (sym y_is ∙ x_is)) ∙ same_bytes))
              (subst (λ (s : DiskState). IsRoomyDisk (size d) s) same_state
              (touched_roomy (size d) (state d) (state y) (read t n (state d) (mapped state disks n d d_is)) (touched.moments t) (roomy n (size d) (state d) (mapped size disks n d d_is) (mapped state disks n d d_is))))
            where
              touched : IsTouchedDisk told state size d y
              touched = each.each n d y d_is y_is

module _ {D : Type 0} (told : Type 0) (state : D → DiskState) (own size : D → ℕ) (seed nodes : ℕ) (script : Script) (shown : Shown) (made : RunMade) (disks afters : List D) (over : IsOverNodes told state own size seed script shown made disks afters)
    (count : length disks ≡ nodes) (once : SitOnce script.seats) (fits : Fits nodes script) (laws : NodesLaws told state own size) (rooms : RoomLaws told state own size) where
  pub nodes_roomy : StayRoomy told state size disks afters
  nodes_roomy = by (came_to told state own size seed script shown made disks afters over)
    where
      ran_so : (ending : Result Ending RoundFault) (tells : Result (List SiteTold) NoMemory) → HasRun told state own size script seed ending tells disks afters → StayRoomy told state size disks afters
      ran_so ending tells ran = ran_roomy told state own size script seed nodes disks afters count once fits over.read laws rooms ending tells ran

      touched_so : EachBeside (λ n. IsTouchedDisk told state size) disks afters → StayRoomy told state size disks afters
      touched_so touched = touched_stay told state own size script seed nodes disks afters count once fits over.read laws rooms touched

      by : CameTo told state own size seed script shown made disks afters → StayRoomy told state size disks afters
      by (inl c) = ran_so (Ok c.ending) (Ok c.tells) c.ran
      by (inr (inl c)) = ran_so (Err (faults.DiskFault c.node)) (Ok c.tells) c.ran
      by (inr (inr (inl c))) = ran_so c.ending (Ok c.tells) c.ran
      by (inr (inr (inr (inl c)))) = touched_so (each_of (λ n. IsTouchedUpTo told state size c.node.0 n) (λ n. IsTouchedDisk told state size) disks afters (λ n a b t. t.touched) c.not.each)
      by (inr (inr (inr (inr c)))) = left_so c.left
        where
          left_so : EachBeside (λ n. IsTouchedDisk told state size) disks afters ⊎ HasRunSo told state own size seed script disks afters → StayRoomy told state size disks afters
          left_so (inl touched) = touched_so touched
          left_so (inr ran) = ran_so ran.ending ran.tells ran.ran
