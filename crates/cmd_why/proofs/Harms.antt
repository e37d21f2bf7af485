-- The shown harms are harms.
use Rattle.std.proofs.Common.{◌≡◌, ◌∙◌, ◌⊎◌, inl, inr, refl, sym, subst, ap, ℕ, ◌≤◌, arith, List, length, Option, Some, None}
use Rattle.{echo_addr.specs.declared.address.Address.Address, model_graph.specs.Walk.Among, echo_filed.specs.declared.key.Key.{Key, TheVariants.ById}}
use Rattle.{echo_filed.specs.{Filed.{Filed, key_of}, Stubs.{stub_of, stub_with}}, model_run.specs.Run.{Run, System, nth}}
use Rattle.model_run.{specs.{Orderly.{IsPosting, count, sent_count}, Harms.Harm}, proofs.HarmLists.nth-below as nth-there}
use Rattle.cmd_why.specs.declared.shown.Harm.{Harm as Reported, TheVariants.{NeverGets, NeverSettles, SentAgain, SentOwn}}
use Rattle.cmd_why.{specs.Found.{BreaksIt, HasHarm, HasPosted}, proofs.Judged.{in-nth, nth-in}}

stub-sender : (m : Filed) (o : Option (List ℕ)) → (stub_with m o).sender ≡ m.sender
stub-sender m None = refl
stub-sender m (Some id) = refl

stub-tag : (m : Filed) (o : Option (List ℕ)) → (stub_with m o).echo.tag ≡ m.echo.tag
stub-tag m None = refl
stub-tag m (Some id) = refl

of_stub : (tag : List ℕ) (m : Filed) → IsPosting tag (stub_of m) → IsPosting tag m
unfolding stub_of
of_stub tag m posting = grind (arith, stub-sender, stub-tag)

record WasPosted (run : Run) (tag id : List ℕ) : Type 0 where
  system : System
  there : Among system run.systems
  message : Filed
  filed : Among message system.history
  posting : IsPosting tag message
  key : key_of message ≡ ById tag id

abbrev pub AreStubs : Run → Type 0
AreStubs run = (s : System) → Among s run.systems → (i : ℕ) (m filed : Filed) → nth i s.base ≡ Some m → nth i s.history ≡ Some filed →
    (m ≡ filed) ⊎ (m ≡ stub_of filed)

abbrev pub AreAsMany : Run → Type 0
AreAsMany run = (s : System) → Among s run.systems → length s.base ≡ length s.history

was_posted : (run : Run) (tag id : List ℕ) → AreStubs run → AreAsMany run → ((m : Filed) → key_of (stub_of m) ≡ key_of m) →
    HasPosted run tag id → WasPosted run tag id
was_posted run tag id stubs many keys p =
    let (i, at, within) = in-nth p.system.base p.message p.filed in
    let (f, was) = nth-there i p.system.history (let same = many p.system p.there in omega (arith, same, within)) in
    let P : Filed → Type 0 = λ x. IsPosting tag x in
    elim (stubs p.system p.there i p.message f at was) [
      | inl same ↦ record {
        system = p.system;
        there = p.there;
        message = f;
        filed = nth-in i p.system.history f was;
        posting = subst P same p.posting;
        key = sym (ap (λ (x : Filed). key_of x) same) ∙ p.key;
      }
      | inr stub ↦ record {
        system = p.system;
        there = p.there;
        message = f;
        filed = nth-in i p.system.history f was;
        posting = of_stub tag f (subst P stub p.posting);
        key = sym (keys f) ∙ (sym (ap (λ (x : Filed). key_of x) stub) ∙ p.key);
      }
    ]

pub reported-harm : (run : Run) (tag id : List ℕ) (reported : Reported) → AreStubs run → AreAsMany run → ((m : Filed) → key_of (stub_of m) ≡ key_of m) →
    BreaksIt reported → HasHarm run tag id reported → Harm run tag
reported-harm run tag id (SentAgain a times) stubs many keys breaks h =
    let P : Address → Type 0 = λ b. 2 ≤ sent_count b (ById tag id) run.packets in
    inl (record {
      system = h.carrier.system;
      there = h.carrier.there;
      carries = h.carrier.carries;
      key = ById tag id;
      of_area = refl;
      again = subst P (sym h.carrier.address) (let sent = h.sent in let again = h.again in omega (arith, sent, again));
    })
reported-harm run tag id (SentOwn a) stubs many keys breaks h =
    let P : Address → Type 0 = λ b. 1 ≤ sent_count b (ById tag id) run.packets in
    let Q : Key → Type 0 = λ k. 1 ≤ sent_count h.poster.system.file.system k run.packets in
    inr (inl (record {
      system = h.poster.system;
      there = h.poster.there;
      carries = h.poster.carries;
      message = h.poster.message;
      filed = h.poster.filed;
      posting = h.poster.posting;
      sent = subst Q (sym h.poster.key) (subst P (sym h.address) h.sent);
    }))
reported-harm run tag id (NeverGets a) stubs many keys breaks h =
    let posted = was_posted run tag id stubs many keys h.poster in
    let Q : Key → Type 0 = λ k. count k h.carrier.system.base ≡ 0 in
    inr (inr (record {
      settled = h.settled;
      poster = posted.system;
      at_poster = posted.there;
      message = posted.message;
      filed = posted.filed;
      posting = posted.posting;
      system = h.carrier.system;
      there = h.carrier.there;
      carries = h.carrier.carries;
      lacks = subst Q (sym posted.key) h.lacks;
    }))
reported-harm run tag id NeverSettles stubs many keys breaks h = absurd breaks
