-- A system after the toss of messages of one sender.
use Rattle.std.proofs.Common.{◌≡◌, ap, inl, inr, refl, sym, subst, ◌∙◌, ℕ, ◌^◌, ◌<◌, arith, append-nil, List, [], ◌∷◌, ◌++◌, Option, Some, None}
use Rattle.std.{proofs.lemmas.Bool.{cases_Bool, cond-false, cond-true}, specs.{Prelude.option_to_list, List.AllByRecursion}}
use Rattle.{echo_addr.specs.declared.address.Address.Address, model_graph.{specs.Walk.Among, proofs.Members.{Among-append_cases, Among-append_left}}}
use Rattle.{echo_packet.specs.Message.{IsMessage, Message}, echo_links.specs.Links.{IsFile, LinkFile}, echo_filed.specs.Filed.{Filed, HasSmallSender}}
use Rattle.{base_file.specs.Base.IsBase, model_steps.specs.{Tossing.{sender_of, received, tossed, tossing, zone_of}, SystemState.SystemState}}
use Rattle.{model_steps.proofs.{Received.tossing_received, Kept.tossing_keeps}, model_run.specs.Run.{System, filing, state_of, tossing_at}}
use Rattle.{model_run.proofs.{StandingRuns.tossing-state, Targets.none_some}, law_stations.{specs.Agreement.HasPosting, proofs.Readings.TossesFront}}
use Rattle.law_stations.proofs.Unpurged.{IsAsFiled, tossing-as_filed}

-- A system made from another, with this state. It has the same link file and all messages filed there. It has posted
-- nothing since, and has a base. If the other had all messages as they were filed, so has it.
pub record Takes (s now : System) (state : SystemState) : Type 0 where
  pub is : state_of now ≡ state
  pub file : now.file ≡ s.file
  pub longer : (m : Filed) → Among m s.history → Among m now.history
  pub posted : (m : Filed) → HasPosting m now → HasPosting m s
  pub as_filed : IsAsFiled s → IsAsFiled now
  pub base : IsBase now.base now.cursor

pub takes-none : (s : System) → IsBase s.base s.cursor → Takes s s (state_of s)
takes-none s base = record { is = refl; file = refl; longer = λ m h. h; posted = λ m h. h; as_filed = λ h. h; base = base }

pub takes-both : (s mid now : System) (a b : SystemState) → Takes s mid a → Takes mid now b → Takes s now b
takes-both s mid now a b t u = record {
  is = u.is;
  file = u.file ∙ t.file;
  longer = λ m h. u.longer m (t.longer m h);
  posted = λ m h. t.posted m (u.posted m h);
  as_filed = λ h. u.as_filed (t.as_filed h);
  base = u.base;
}

filing-longer : (o : Option Filed) (s : System) (m : Filed) → Among m s.history → Among m (filing s o).history
filing-longer None s m h = h
filing-longer (Some x) s m h = Among-append_left m s.history (x ∷ []) h

tossing-longer : (sender : Address) (ms : List Message) (s : System) (m : Filed) → Among m s.history → Among m (tossing_at sender ms s).history
tossing-longer sender [] s m h = h
tossing-longer sender (q ∷ ms) s m h =
    tossing-longer sender ms (filing s (tossing s.file s.base sender q)) m (filing-longer (tossing s.file s.base sender q) s m h)

filing-posted : (s : System) (o : Option Filed) (m : Filed) → ((x : Filed) → o ≡ Some x → x.sender ≡ None → ⊥) → HasPosting m (filing s o) → HasPosting m s
filing-posted s None m other has = has
filing-posted s (Some x) m other has = elim (Among-append_cases m s.history (x ∷ []) has.filed) [
  | inl old ↦ record { filed = old; own = has.own }
  | inr last ↦ elim last [
    | inl e ↦ absurd (other x refl (ap (λ (y : Filed). y.sender) (sym e) ∙ has.own))
    | inr none ↦ absurd none
  ]
]

no-posting : (sender : Address) (q : Message) → (received sender q).sender ≡ None → ⊥
unfolding received
no-posting sender q e = none_some (sym e)

tossing-posted : (sender : Address) (ms : List Message) (s : System) (m : Filed) → HasPosting m (tossing_at sender ms s) → HasPosting m s
tossing-posted sender [] s m has = has
tossing-posted sender (q ∷ ms) s m has =
    filing-posted s (tossing s.file s.base sender q) m (λ x e own.
    no-posting sender q (ap (λ (y : Filed). y.sender) (sym (tossing_received s.file s.base sender q x e).1) ∙ own))
    (tossing-posted sender ms (filing s (tossing s.file s.base sender q)) m has)

tossed-base : (most : ℕ) (file : LinkFile) (sender : Address) → HasSmallSender (Some sender) → (ms : List Message) → AllByRecursion (IsMessage most) ms
    → (base : List Filed) (cursor : ℕ) → IsBase base cursor → IsBase (tossed file base sender ms) cursor
tossed-base most file sender small [] all base cursor is = is
tossed-base most file sender small (q ∷ ms) all base cursor is =
    tossed-base most file sender small ms all.1 (base ++ option_to_list (tossing file base sender q)) cursor (one (tossing file base sender q) refl)
  where
    one : (o : Option Filed) → tossing file base sender q ≡ o → IsBase (base ++ option_to_list o) cursor
    one None e = subst (λ (l : List Filed). IsBase l cursor) (sym (append-nil base)) is
    one (Some m) e = tossing_keeps most file base cursor sender q m small all.0 is e

small-zone : (file : LinkFile) (zone : ℕ) → IsFile file → zone < 2 ^ 16 → zone_of file zone < 2 ^ 16
small-zone file zone fits small = grind (arith, cases_Bool, cond-true, cond-false)

pub takes-front : (bytes : List ℕ) (s : System) (new : SystemState) → IsFile s.file → IsBase s.base s.cursor → (t : TossesFront bytes (state_of s) new)
    → Takes s (tossing_at (sender_of s.file t.header) t.messages s) new
takes-front bytes s new fits base t =
    let sender = sender_of s.file t.header in
    let header = t.begins.is_header in
    let small : HasSmallSender (Some sender) = (small-zone s.file t.header.orig_zone fits header.orig_zone, header.orig_net, header.orig_node) in
    let state = tossing-state sender t.messages s in
    let B : SystemState → Type 0 = λ x. IsBase x.base x.cursor in
    record {
      is = state ∙ sym t.state;
      file = ap (λ (x : SystemState). x.file) state;
      longer = tossing-longer sender t.messages s;
      posted = tossing-posted sender t.messages s;
      as_filed = tossing-as_filed sender t.messages s;
      base = subst B (sym state) (tossed-base t.limits.text s.file sender small t.messages t.begins.are_messages.each s.base s.cursor base);
    }
