-- An item of a list is changed.
use Rattle.std.proofs.Common.{◌≡◌, ◌≢◌, ℕ, zero, suc, ◌<◌, ◌≤◌, List, [], ◌∷◌, ◌++◌, length, get_or, set, map, cond, refl, sym, ap, ◌∙◌, Option, Some, None, arith}
use Rattle.std.{proofs.{lemmas.{List.append-nil, Option.{get_or_from_slice_get, slice_get_read}}, Math.Seq.map-set_same}, specs.{Prelude.is_none, List.All}}
use Rattle.echo_links.specs.Links.{LinkFile}
use Rattle.model_steps.specs.{declared.draft.Draft.Draft, declared.stamp.Stamp.Stamp, declared.fault.PostFault.PostFault, declared.packet.Packet.Packet, Posting.post_refusal, Posting.posted, Posting.posting, SystemState.SystemState, SystemState.state_with}
use Rattle.model_steps.specs.declared.fault.PostFault.TheVariants as fault
use Rattle.echo_steps.{specs.{Refusals.refusal_by, declared.refusing.ReplyRule.TheVariants.AnyForm}, proofs.Replies.any_form}
use Rattle.echo_toss.specs.Steps.{IsFaultOf}
use Rattle.model_run.specs.Run.{change, nth}
use Rattle.echo_net.specs.Worlds.{Exported, Fits, ScanFits, WorldState, own_addresses, after_posting, after_scan, after_toss, arrived, made, made_by, scanned_world, with_change}
use Rattle.echo_net.proofs.Exports.{nth-slice_get}

pub change-past : {X : Type 0} (i : ℕ) (f : X → X) (xs : List X) → length xs ≤ i → change i f xs ≡ xs
change-past i f [] h = refl
change-past zero f (x ∷ xs) h = absurd (omega arith)
change-past (suc i) f (x ∷ xs) h = ap (λ (ys : List _). x ∷ ys) (change-past i f xs (omega arith))

pub set-change : {X : Type 0} (i : ℕ) (f : X → X) (xs : List X) (y d : X) → i < length xs → y ≡ f (get_or xs i d) → set xs i y ≡ change i f xs
set-change i f [] y d h e = absurd (omega arith)
set-change zero f (x ∷ xs) y d h e = ap (λ (z : _). z ∷ xs) e
set-change (suc i) f (x ∷ xs) y d h e = ap (λ (ys : List _). x ∷ ys) (set-change i f xs y d (omega arith) e)

pub state_with-none : (s : SystemState) → state_with s None ≡ s
state_with-none s = let e = append-nil s.base in λ i. record { file = s.file; base = e i; cursor = s.cursor }

posting-some : (o : SystemState) (tag : List ℕ) (draft : Draft) (serial : ℕ) (stamp : Stamp) → post_refusal o.file o.base tag draft serial stamp ≡ None
    → posting o.file o.base tag draft serial stamp ≡ Some (posted o.file tag draft serial stamp)
unfolding posting
posting-some o tag draft serial stamp e = ap (λ (r : Option PostFault). cond (is_none r) (Some (posted o.file tag draft serial stamp)) None) e

posting-none : (o : SystemState) (tag : List ℕ) (draft : Draft) (serial : ℕ) (stamp : Stamp) (f : PostFault) → post_refusal o.file o.base tag draft serial stamp ≡ Some f
    → posting o.file o.base tag draft serial stamp ≡ None
unfolding posting
posting-none o tag draft serial stamp f e = ap (λ (r : Option PostFault). cond (is_none r) (Some (posted o.file tag draft serial stamp)) None) e

refused-none : (o : SystemState) (tag : List ℕ) (draft : Draft) (serial : ℕ) (stamp : Stamp) (f : PostFault) (n : SystemState) → post_refusal o.file o.base tag draft serial stamp ≡ Some f
    → n ≡ o → n ≡ after_posting tag draft serial stamp o
refused-none o tag draft serial stamp f n e same = same ∙ sym (state_with-none o) ∙ ap (state_with o) (sym (posting-none o tag draft serial stamp f e))

pub posted-after : (o : SystemState) (tag : List ℕ) (draft : Draft) (serial : ℕ) (stamp : Stamp) (n : SystemState) → refusal_by AnyForm o.file o.base tag draft serial stamp ≡ None
    → n ≡ state_with o (Some (posted o.file tag draft serial stamp)) → n ≡ after_posting tag draft serial stamp o
posted-after o tag draft serial stamp n free h =
    h ∙ ap (state_with o) (sym (posting-some o tag draft serial stamp (sym (any_form o.file o.base tag draft serial stamp) ∙ free)))

first-fault : (first : Option PostFault) (f : PostFault) → IsFaultOf first f → f ≢ fault.Memory → first ≡ Some f
first-fault first fault.Memory h other = absurd (other refl)
first-fault first fault.NoArea h other = h
first-fault first fault.ByteZero h other = h
first-fault first fault.FieldTooLong h other = h
first-fault first fault.BadStamp h other = h
first-fault first fault.BadReply h other = h
first-fault first fault.KnownSerial h other = h

pub refused-after : (o : SystemState) (tag : List ℕ) (draft : Draft) (serial : ℕ) (stamp : Stamp) (f : PostFault) (n : SystemState)
    → IsFaultOf (refusal_by AnyForm o.file o.base tag draft serial stamp) f → f ≢ fault.Memory → n ≡ o → n ≡ after_posting tag draft serial stamp o
refused-after o tag draft serial stamp f n is other same =
    refused-none o tag draft serial stamp f n
    (sym (any_form o.file o.base tag draft serial stamp) ∙ first-fault (refusal_by AnyForm o.file o.base tag draft serial stamp) f is other) same

pub set-addresses : (ss : List SystemState) (i : ℕ) (s d : SystemState) → s.file ≡ (get_or ss i d).file → own_addresses (set ss i s) ≡ own_addresses ss
set-addresses ss i s d e = map-set_same (λ (x : SystemState). x.file.system) ss i s d (ap (λ (f : LinkFile). f.system) e)

pub with_past : (world : WorldState) (i : ℕ) (f : SystemState → SystemState) → length world.systems ≤ i → world ≡ with_change world i f
with_past world i f h = grind (arith, change-past)

pub with_set : (systems : List SystemState) (packets : List Exported) (world : WorldState) (i : ℕ) (f : SystemState → SystemState) (s t d : SystemState)
    → record { systems = systems; packets = packets } ≡ world → i < length systems → t ≡ get_or systems i d → s ≡ f t
    → record { systems = set systems i s; packets = packets } ≡ with_change world i f
with_set systems packets world i f s t d view h there new = grind (arith, set-change)

pub addresses_stay : (systems : List SystemState) (packets : List Exported) (world : WorldState) (i : ℕ) (s t d : SystemState)
    → record { systems = systems; packets = packets } ≡ world → t ≡ get_or systems i d → s.file ≡ t.file
    → own_addresses (set systems i s) ≡ own_addresses world.systems
addresses_stay systems packets world i s t d view there same =
    set-addresses systems i s d (same ∙ ap (λ (x : SystemState). x.file) there) ∙ ap (λ (w : WorldState). own_addresses w.systems) view

pub nth-read : {X : Type 0} (xs : List X) (i : ℕ) (x : X) → i < length xs → x ≡ get_or xs i x → nth i xs ≡ Some x
nth-read xs i x within there = sym (nth-slice_get i xs) ∙ slice_get_read xs (length xs) i x refl within there

pub read-nth : {X : Type 0} (xs : List X) (i : ℕ) (x d : X) → nth i xs ≡ Some x → get_or xs i d ≡ x
read-nth xs i x d there = get_or_from_slice_get xs i x d (nth-slice_get i xs ∙ there)

pub scanned-set : (systems : List SystemState) (packets now : List Exported) (world : WorldState) (i : ℕ) (stamp : Stamp) (ps : List Packet) (s t : SystemState)
    → record { systems = systems; packets = packets } ≡ world → i < length systems → t ≡ get_or systems i t → s ≡ after_scan stamp t
    → ps ≡ made_by stamp t → now ≡ packets ++ map made ps
    → record { systems = set systems i s; packets = now } ≡ scanned_world world i stamp (nth i world.systems)
scanned-set systems packets now world i stamp ps s t view within there new made_is put = grind (arith, set-change, nth-read)

pub fits-set : (systems : List SystemState) (packets : List Exported) (world : WorldState) (i : ℕ) (stamp : Stamp) (ps : List Packet) (t : SystemState)
    → record { systems = systems; packets = packets } ≡ world → i < length systems → t ≡ get_or systems i t
    → ps ≡ made_by stamp t → All Fits ps → ScanFits stamp (nth i world.systems)
fits-set systems packets world i stamp ps t view within there made_is fits = grind (arith, nth-read)

pub arrived-set : (systems : List SystemState) (packets : List Exported) (world : WorldState) (i k : ℕ) (p : Packet) (s t d : SystemState) (e x y : Exported)
    → record { systems = systems; packets = packets } ≡ world → i < length systems → k < length packets
    → t ≡ get_or systems i d → s ≡ after_toss p t → x ≡ get_or packets k y → e ≡ arrived x
    → ◌≡◌ {A = WorldState} (record { systems = set systems i s; packets = set packets k e })
    (record { systems = change i (after_toss p) world.systems; packets = change k arrived world.packets })
arrived-set systems packets world i k p s t d e x y view within among there new found mark = grind (arith, set-change)
