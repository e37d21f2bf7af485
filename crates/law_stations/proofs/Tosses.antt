-- A toss of any files is a toss of messages in them.
use Rattle.std.proofs.Common.{◌≡◌, inl, inr, refl, sym, subst, ap, ◌∙◌, ℕ, zero, suc, arith, List, [], ◌∷◌, ◌++◌, length, take, Option, Some, None}
use Rattle.{std.proofs.lemmas.List.take_all, echo_addr.specs.declared.address.Address.Address, model_graph.specs.Walk.Among}
use Rattle.{model_graph.proofs.Members.{Among-append_cases, Among-append_left, Among-append_right}, echo_packet.specs.declared.header.Header.Header}
use Rattle.echo_packet.specs.{declared.limits.Limits.Limits, Message.{HasNoZero, IsMessage, Message}, Packet.PacketOf}
use Rattle.{echo_links.specs.Links.{IsFile, LinkFile}, base_file.specs.Base.IsBase, model_steps.specs.{SystemState.SystemState, Tossing.sender_of}}
use Rattle.{echo_steps.specs.PacketSteps.BeginsWith, model_run.specs.Lone.{LoneEvent, LoneSystem, TossHere, after_all_lone, with_system}}
use Rattle.{model_run.{specs.Run.{System, state_of, tossing_at}, proofs.{Filings.events-append, States.each-of}}, cmd_status.specs.declared.fault.Fault.Fault}
use Rattle.{cmd_store.specs.Coming.{Coming, Fails, Holds, Unknown}, law_stations.proofs.{FileRuns.{IsPartly, TossedFiles, wholes}, Readings.TossesFront}}
use Rattle.law_stations.{proofs.Tossed.{Takes, takes-both, takes-front, takes-none}, specs.AloneInOrder.FaultlessTossIsWhole}
use Rattle.law_stations.specs.LoneStations.{AreAnyFiles, held_in, tossed_whole}

pub front-plain : (bytes : List ℕ) (limits : Limits) (header : Header) (messages : List Message) → BeginsWith limits header messages bytes
    → (packed : Message) → Among packed messages → HasNoZero packed.text
front-plain bytes limits header messages begins packed h = (each-of (IsMessage limits.text) messages begins.are_messages.each packed h).text.no_zero

-- messages at the beginning of the bytes, from the sender in their header
pub record IsInFront (file : LinkFile) (bytes : List ℕ) (sender : Address) (messages : List Message) : Type 0 where
  pub header : Header
  pub limits : Limits
  pub begins : BeginsWith limits header messages bytes
  pub sender_is : sender ≡ sender_of file header

-- an event is the toss of messages at the beginning of one of the files
abbrev pub IsTossFrom : LinkFile → List (List ℕ) → LoneEvent → Type 0
IsTossFrom file files (TossHere sender messages) = (bytes : List ℕ) × Among bytes files × IsInFront file bytes sender messages
IsTossFrom file files other = ⊥

-- one of the events tossed the packet at the beginning of the bytes whole
pub record IsTossedBy (file : LinkFile) (events : List LoneEvent) (bytes : List ℕ) : Type 0 where
  pub header : Header
  pub messages : List Message
  pub limits : Limits
  pub front : List ℕ
  pub behind : List ℕ
  pub parts : bytes ≡ front ++ behind
  pub packet : PacketOf limits header messages front
  pub there : Among (TossHere (sender_of file header) messages) events

-- a system after tosses from files, some of them tossed whole
pub record TossesFrom (files whole : List (List ℕ)) (z : System) (system : SystemState) : Type 0 where
  pub events : List LoneEvent
  pub from : (event : LoneEvent) → Among event events → IsTossFrom z.file files event
  pub all : (bytes : List ℕ) → Among bytes whole → IsTossedBy z.file events bytes
  pub now : System
  pub takes : Takes z now system
  pub becomes : (s : LoneSystem) → s.system ≡ z → after_all_lone s events ≡ with_system s now

nothing : (files : List (List ℕ)) (z : System) (new : SystemState) → IsBase z.base z.cursor → new ≡ state_of z → TossesFrom files [] z new
nothing files z new base same = record {
  events = [];
  from = λ event h. absurd h;
  all = λ bytes h. absurd h;
  now = z;
  takes = subst (Takes z z) (sym same) (takes-none z base);
  becomes = λ s e. ap (λ (x : System). with_system s x) e;
}

-- messages at the beginning of bytes were tossed
fronted : (bytes : List ℕ) (more whole : List (List ℕ)) (z : System) (new : SystemState) → IsFile z.file → IsBase z.base z.cursor → (t : TossesFront bytes (state_of z) new)
    → ((b : List ℕ) → Among b whole → IsTossedBy z.file (TossHere (sender_of z.file t.header) t.messages ∷ []) b) → TossesFrom (bytes ∷ more) whole z new
fronted bytes more whole z new fits base t all =
    let sender = sender_of z.file t.header in
    record {
      events = TossHere sender t.messages ∷ [];
      from = λ event h. elim h [
        | inl e ↦ (let P : LoneEvent → Type 0 = λ x. IsTossFrom z.file (bytes ∷ more) x in
            subst P (sym e) (bytes, inl refl, record { header = t.header; limits = t.limits; begins = t.begins; sender_is = refl }))
        | inr none ↦ absurd none
      ];
      all = all;
      now = tossing_at sender t.messages z;
      takes = takes-front bytes z new fits base t;
      becomes = λ s e. ap (λ (x : System). with_system s (tossing_at sender t.messages x)) e;
    }

more-files : (file : LinkFile) (files others : List (List ℕ)) (event : LoneEvent) → ((b : List ℕ) → Among b files → Among b others)
    → IsTossFrom file files event → IsTossFrom file others event
more-files file files others event h1 h2 = grind arith

pub more-events : (file : LinkFile) (events others : List LoneEvent) (bytes : List ℕ) → ((e : LoneEvent) → Among e events → Among e others)
    → IsTossedBy file events bytes → IsTossedBy file others bytes
more-events file events others bytes more by = grind arith

joined : (bytes : List ℕ) (later first whole : List (List ℕ)) (z : System) (mid new : SystemState) → (t : TossesFrom (bytes ∷ []) first z mid)
    → TossesFrom later whole t.now new → TossesFrom (bytes ∷ later) (first ++ whole) z new
joined bytes later first whole z mid new t u =
    let files = bytes ∷ later in
    let F : LinkFile → LoneEvent → Type 0 = λ file event. IsTossFrom file later event in
    let G : LinkFile → List ℕ → Type 0 = λ file b. IsTossedBy file u.events b in
    record {
      events = t.events ++ u.events;
      from = λ event h. elim (Among-append_cases event t.events u.events h) [
        | inl old ↦ more-files z.file (bytes ∷ []) files event (λ b i. elim i [ inl e ↦ inl e | inr none ↦ absurd none ]) (t.from event old)
        | inr new ↦ more-files z.file later files event (λ b i. inr i)
            (let P : LinkFile → Type 0 = λ file. F file event in subst P t.takes.file (u.from event new))
      ];
      all = λ b h. elim (Among-append_cases b first whole h) [
        | inl old ↦ more-events z.file t.events (t.events ++ u.events) b (λ e i. Among-append_left e t.events u.events i) (t.all b old)
        | inr new ↦ more-events z.file u.events (t.events ++ u.events) b (λ e i. Among-append_right e t.events u.events i)
            (let P : LinkFile → Type 0 = λ file. G file b in subst P t.takes.file (u.all b new))
      ];
      now = u.now;
      takes = takes-both z t.now u.now mid new t.takes u.takes;
      becomes = λ s e.
          events-append t.events u.events s
          ∙ (ap (λ (x : LoneSystem). after_all_lone x u.events) (t.becomes s e) ∙ u.becomes (with_system s t.now) refl);
    }

last-file : (files : List Coming) (z : System) (new : SystemState) → AreAnyFiles files → IsFile z.file → IsBase z.base z.cursor → IsPartly files (state_of z) new
    → TossesFrom (held_in files) [] z new
last-file [] z new any fits base same = nothing [] z new base same
last-file (Unknown ∷ files) z new any fits base partly = absurd any
last-file (Fails path ∷ files) z new any fits base same = nothing (held_in files) z new base same
last-file (Holds bytes ∷ files) z new any fits base (inl same) = nothing (bytes ∷ held_in files) z new base same
last-file (Holds bytes ∷ files) z new any fits base (inr t) = fronted bytes (held_in files) [] z new fits base t (λ b h. absurd h)

pub files-tossed : (n : ℕ) (files : List Coming) (z : System) (new : SystemState) → AreAnyFiles files → IsFile z.file → IsBase z.base z.cursor → TossedFiles n files (state_of z) new
    → TossesFrom (held_in files) (held_in (take n files)) z new
files-tossed zero files z new any fits base partly = last-file files z new any fits base partly
files-tossed (suc n) [] z new any fits base tossed = absurd tossed
files-tossed (suc n) (Unknown ∷ files) z new any fits base tossed = absurd any
files-tossed (suc n) (Fails path ∷ files) z new any fits base tossed = absurd tossed.1
files-tossed (suc n) (Holds bytes ∷ files) z new any fits base (mid, whole, more) =
    let front = whole.tossed_front in
    let events = TossHere (sender_of z.file front.header) front.messages ∷ [] in
    let t = fronted bytes [] (bytes ∷ []) z mid fits base front (λ b h. elim h [
      | inl e ↦ (let P : List ℕ → Type 0 = λ x. IsTossedBy z.file events x in
          subst P (sym e) (record {
            header = front.header;
            messages = front.messages;
            limits = front.limits;
            front = whole.front;
            behind = whole.behind;
            parts = whole.parts;
            packet = whole.packet;
            there = inl refl;
          }))
      | inr none ↦ absurd none
    ]) in
    let rest = subst (λ (x : SystemState). TossedFiles n files x new) (sym t.takes.is) more in
    joined bytes (held_in files) (bytes ∷ []) (held_in (take n files)) z mid new t (files-tossed n files t.now new any (subst IsFile (sym t.takes.file) fits) t.takes.base rest)

pub whole-first : (files : List Coming) (stopped : Option Fault) (left : List Coming) → take (wholes (length files) stopped left) files ≡ tossed_whole files stopped left
whole-first files None left = take_all (length files) files (omega arith)
whole-first files (Some fault) left = refl

pub faultless-whole : FaultlessTossIsWhole
faultless-whole files s new toss none = grind arith
