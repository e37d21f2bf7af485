-- The promise of `check` about a session.
use Rattle.std.proofs.Common.{◌≡◌, ℕ, List, [], ◌∷◌, inl, inr, refl, subst, sym, ◌∙◌, ap, arith}
use Rattle.std.specs.Prelude.{Bool, drop, false, length, None}
use Rattle.{base_file.specs.Base.{Base, IsBase}, cmd_store.specs.declared.drafting.NewMessage.NewMessage, disk_memory.specs.{Memory.disk_after, declared.memory_disk.Change.Change}}
use Rattle.{echo_filed.specs.{Filed.{Filed, key_of}, declared.key.Key.Key}, model_graph.specs.Walk.Among, model_run.specs.Orderly.{count}, model_steps.specs.declared.stamp.Stamp.Stamp, station.specs.Place.Place}
use Rattle.model_run.proofs.Lists.{nth-among}
use Rattle.law_stations.specs.{AnyDisks.KeyHasSettled, AnyNets.{IsNewTo, IsSomeNet}, Disks.{Disks, StagingFile}, Nets.{Station, new_station}, Steps.{GoesOn, Step}}
use Rattle.law_stations.proofs.Sequence.{headline-from-any-sequences}
use Rattle.law_session.specs.{InOrder.{IsOrderlySession, ShowOrder, WasJudged}, Session.{HaveAllCome, IsSession, NothingWaits, at_first, cut_steps, leftover, seats, stations, steps_to}}

none-after : (messages : List Filed) (m : Filed) → Among m (drop (length messages) messages) → ⊥
none-after [] m among = absurd among
none-after (x ∷ messages) m among = none-after messages m among

-- Nothing waits, so a key has settled once each packet came.
settled : (d : Disks) (key : Key) → NothingWaits d → HaveAllCome d.net → KeyHasSettled d key
settled d key nothing came = record {
  named = record {
    scanned = λ i file messages cursor holds m waits.
        let at_end = nothing.scanned holds.station (nth-among i holds.station d.net.stations holds.there) in
        let all : cursor ≡ length messages = ap (λ (b : Base). b.cursor) (sym holds.says.base) ∙ at_end ∙ ap (λ (b : Base). length b.messages) holds.says.base in
        absurd (none-after messages m (subst (λ (c : ℕ). Among m (drop c messages)) all waits));
    tossed = λ k bytes p there reads m among is. came k bytes there;
  };
  staging = λ file p waits. absurd (subst (λ (l : List StagingFile). Among file l) nothing.named waits.staged);
}

module _ (first second left : List ℕ) where
  at-first : (station : Station) → Among station (stations first second) → (P : Station → Type 0) → ((links : List ℕ) → P (new_station links)) → P station
  at-first station (inl is) P all = subst P (sym is) (all first)
  at-first station (inr (inl is)) P all = subst P (sym is) (all second)
  at-first station (inr (inr none)) P all = absurd none

  empty-base : (links : List ℕ) → IsBase (new_station links).base.messages (new_station links).base.cursor
  empty-base links = record { each = tt; new = tt; within = omega arith }

  some-net : IsSomeNet (stations first second) []
  some-net = record { bases = λ station among. at-first station among (λ s. IsBase s.base.messages s.base.cursor) empty-base; read_as = []; files = tt }

  all-new : (key : Key) → IsNewTo (stations first second) [] key
  all-new key = record { unfiled = λ station among. at-first station among (λ s. count key s.base.messages ≡ 0) (λ links. refl); unsent = λ bytes among. absurd among }

  pub in-order : (place : Bool → Place) (words : NewMessage) (body : List ℕ) (stamp : Stamp) (ended : List Change) → WasJudged words.tag.now (first ∷ (second ∷ [])) → IsSession place first second left words body stamp ended
      → IsOrderlySession place first second left words body stamp ended
  in-order place words body stamp ended judged s = record {
    session = s;
    order = show (steps_to words body stamp s.index s.times) s.goes.end s.goes.goes;
    cut_order = λ files is. show (cut_steps words body s.times (s.cut files is).command files) (s.cut files is).goes.end (s.cut files is).goes.goes;
    came = λ came posting among area i file messages cursor holds has_it.
        (show (steps_to words body stamp s.index s.times) s.goes.end s.goes.goes (key_of posting) area).order.not_lost.all_came (settled s.goes.end (key_of posting) s.nothing_waits came) posting among refl i file messages cursor holds has_it;
  }
    where
      show : (steps : List (Step (List Change))) (end : Disks) → GoesOn disk_after place seats steps (s.begun ∷ []) (at_first first second left) end → ShowOrder place words.tag.now s.begun steps end
      show steps end goes key area =
          headline-from-any-sequences disk_after place None false words.tag.now (stations first second) [] (leftover left ∷ []) None judged.old judged.new judged.answers some-net key area (all-new key) seats s.near
          steps (s.begun ∷ []) end s.shown goes
