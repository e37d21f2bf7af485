-- A packet is tossed into a store, message by message.
use Rattle.std.proofs.Common.{◌≡◌, ◌≤◌, ℕ, ◌+◌, List, [], inl, refl, sym, ap, ◌∙◌, subst, arith, Option, IfSome, Ok, Err}
use Rattle.std.{proofs.KnownBytes.{Consumes-nil, Consumes-trans}, specs.Io.KnownBytes.Consumes}
use Rattle.disk_io.specs.Disk.{Honestly}
use Rattle.echo_addr.specs.declared.address.Address.{Address}
use Rattle.echo_packet.specs.{declared.limits.Limits.Limits, declared.fault.PacketFault.PacketFault, Next.FailsInMessage, Next.NextFault, Header.word}
use Rattle.echo_packet.specs.declared.fault.PacketFault.TheVariants as fault
use Rattle.base_file.specs.Base.{Base}
use Rattle.echo_links.specs.Links.{LinkFile}
use Rattle.base_store.{specs.Store.{CommitsNothing, GoesOn, StoreState}, proofs.Runs.{looks_commit, looks_go_on, no_look}}
use Rattle.model_steps.specs.{declared.outcome.Outcome.{TheVariants.{BadTag, Filed, Known, NoArea, NotEcho, NotLinked}, Outcome}, SystemState.SystemState}
use Rattle.echo_steps.specs.{declared.tally.Tally.Tally, declared.fault.TossCause.TossCause, Tallies.all_counted, Tallies.tally_of, Tallies.tally_with, PacketSteps.cause_of, PacketSteps.TossesAll, PacketSteps.TossesPart, Messages.IsOpened, Messages.IsUnopened, Messages.TossesToEnd, PacketsIn.ReadsMessages, PacketsIn.state_in}
use Rattle.echo_steps.specs.declared.fault.TossCause.TheVariants as stop
use Rattle.echo_steps.proofs.PacketTosses.{HasGone, all_given, some_taken}

pub record HasGoneIn (limits : Limits) (sender : Address) (file : LinkFile) (old mid : StoreState) (first now : ℕ) (before left : Option (List ℕ)) (given at : ℕ) (tally : Tally) (failed still : ℕ) : Type 0 where
  pub each : Honestly mid.disk ((base : Base) → old.keeps base
      → (next : Base) × HasGone limits sender (state_in file base) before left given at tally (state_in file next) failed still × mid.keeps next)
  pub any : (base : Base) → (tried : Tally) × (next : Base) × HasGone limits sender (state_in file base) before left given at tried (state_in file next) failed still
  pub on : GoesOn old mid
  pub commits : CommitsNothing old mid
  pub counted : all_counted tally ≡ given
  pub within : given ≤ limits.messages
  pub device : still ≡ failed
  pub later : first ≤ now
  pub sound : old.is_sound → mid.is_sound

none_gone : (limits : Limits) (sender : Address) (s : SystemState) (before : Option (List ℕ)) (failed : ℕ) → HasGone limits sender s before before 0 58 (tally_of []) s failed failed
none_gone limits sender s before failed = grind (arith, Consumes-nil)

pub begun : (limits : Limits) (sender : Address) (file : LinkFile) (old : StoreState) (first : ℕ) (before : Option (List ℕ)) (tally : Tally) (failed : ℕ) → old.is_ready → tally ≡ tally_of []
    → HasGoneIn limits sender file old old first first before before 0 58 tally failed failed
begun limits sender file old first before tally failed ready none =
    let gone : (t : Tally) → t ≡ tally_of [] → (base : Base) → HasGone limits sender (state_in file base) before before 0 58 t (state_in file base) failed failed =
    λ t is base. subst (λ (x : Tally). HasGone limits sender (state_in file base) before before 0 58 x (state_in file base) failed failed) (sym is) (none_gone limits sender (state_in file base) before failed) in
    record {
      each = λ honest base kept. (base, gone tally none base, kept);
      any = λ base. (tally, base, gone tally none base);
      on = looks_go_on old old (no_look old ready);
      commits = looks_commit old old ready (no_look old ready);
      counted = ap all_counted none;
      within = omega arith;
      device = refl;
      later = omega arith;
      sound = λ was. was;
    }

counted_same : (limits : Limits) (sender : Address) (s t : SystemState) (before left : Option (List ℕ)) (given at : ℕ) (tried tally : Tally) (failed still : ℕ) → HasGone limits sender s before left given at tried t failed still
    → all_counted tally ≡ given → all_counted tried ≡ all_counted tally
counted_same limits sender s t before left given at tried tally failed still gone counted =
    all_given limits sender s t before left gone.messages given at tried gone.taken ∙ sym counted

pub read_faulty : {A : Type 0} (limits : Limits) (sender : Address) (file : LinkFile) (base : Base) (before left after : Option (List ℕ)) (given at : ℕ) (tally : Tally) (f : PacketFault) (failed still : ℕ)
    → (tried : Tally) × (next : Base) × HasGone limits sender (state_in file base) before left given at tried (state_in file next) failed still → all_counted tally ≡ given
    → IfSome left (λ bs. NextFault limits given at bs f) → FailsInMessage limits given at [] left after f
    → ReadsMessages {A = A} limits sender file base before after (all_counted tally) (Err (cause_of f))
read_faulty limits sender file base before left after given at tally f failed still (tried, next, gone) counted wrong lost = record {
  tally = tried;
  next = next;
  step = some_taken limits sender (state_in file base) (state_in file next) before left after gone.messages given at tried f gone.taken wrong lost;
  count = counted_same limits sender (state_in file base) (state_in file next) before left given at tried tally failed still gone counted;
}

pub read_so_far : {A : Type 0} (limits : Limits) (sender : Address) (file : LinkFile) (base : Base) (before left after : Option (List ℕ)) (given at : ℕ) (tally : Tally) (failed still : ℕ)
    → (tried : Tally) × (next : Base) × HasGone limits sender (state_in file base) before left given at tried (state_in file next) failed still → all_counted tally ≡ given
    → ReadsMessages {A = A} limits sender file base before after (all_counted tally) (Err stop.Memory)
read_so_far limits sender file base before left after given at tally failed still (tried, next, gone) counted = record {
  tally = tried;
  next = next;
  step = record { messages = gone.messages; left = left; given = given; at = at; taken = gone.taken; stops = tt };
  count = counted_same limits sender (state_in file base) (state_in file next) before left given at tried tally failed still gone counted;
}

pub read_all : {A : Type 0} (limits : Limits) (sender : Address) (file : LinkFile) (base : Base) (before left after : Option (List ℕ)) (given at : ℕ) (tally : Tally) (failed still : ℕ) (done : A)
    → (tried : Tally) × (next : Base) × HasGone limits sender (state_in file base) before left given at tried (state_in file next) failed still → all_counted tally ≡ given
    → Consumes left after (word 0) → ReadsMessages limits sender file base before after (all_counted tally) (Ok done)
read_all limits sender file base before left after given at tally failed still done (tried, next, gone) counted ends = record {
  tally = tried;
  next = next;
  step = record { messages = gone.messages; left = left; given = given; at = at; taken = gone.taken; ends = ends };
  count = counted_same limits sender (state_in file base) (state_in file next) before left given at tried tally failed still gone counted;
}

pub all_counted-tally_with : (t : Tally) (o : Outcome) → all_counted (tally_with t o) ≡ all_counted t + 1
all_counted-tally_with t Filed = omega arith
all_counted-tally_with t Known = omega arith
all_counted-tally_with t NotEcho = omega arith
all_counted-tally_with t BadTag = omega arith
all_counted-tally_with t NoArea = omega arith
all_counted-tally_with t NotLinked = omega arith

pub tossed_all : (limits : Limits) (sender : Address) (old new : SystemState) (before mid after : Option (List ℕ)) (tally : Tally)
    → IsOpened old.file before mid sender → TossesToEnd limits sender old mid after tally new → TossesAll limits old before after tally new
tossed_all limits sender old new before mid after tally o t = grind (arith, Consumes-trans)

pub tossed_none : (limits : Limits) (s : SystemState) (before after : Option (List ℕ)) (tally : Tally) (cause : TossCause) → tally ≡ tally_of []
    → IsUnopened s.file before after cause → TossesPart limits s before after tally cause s
tossed_none limits s before after tally (stop.NotForUs a) none u = grind arith
tossed_none limits s before after tally stop.Memory none u = absurd u
tossed_none limits s before after tally (stop.Packet fault.Memory) none u = absurd u
tossed_none limits s before after tally (stop.Packet (fault.Truncated n)) none u = inl (record { fault = u.fault; inside = u.inside; nothing = (refl, none) })
tossed_none limits s before after tally (stop.Packet (fault.NotType2 n)) none u = inl (record { fault = u.fault; inside = u.inside; nothing = (refl, none) })
tossed_none limits s before after tally (stop.Packet (fault.NotMessage n)) none u = inl (record { fault = u.fault; inside = u.inside; nothing = (refl, none) })
tossed_none limits s before after tally (stop.Packet (fault.FieldTooLong n)) none u = inl (record { fault = u.fault; inside = u.inside; nothing = (refl, none) })
tossed_none limits s before after tally (stop.Packet (fault.TextTooLong n)) none u = inl (record { fault = u.fault; inside = u.inside; nothing = (refl, none) })
tossed_none limits s before after tally (stop.Packet (fault.Read n)) none u = inl (record { fault = u.fault; inside = u.inside; nothing = (refl, none) })
tossed_none limits s before after tally (stop.Packet fault.Stopped) none u = inl (record { fault = u.fault; inside = u.inside; nothing = (refl, none) })
tossed_none limits s before after tally (stop.Packet (fault.Write n)) none u = inl (record { fault = u.fault; inside = u.inside; nothing = (refl, none) })
tossed_none limits s before after tally (stop.Packet (fault.TooManyMessages n)) none u = inl (record { fault = u.fault; inside = u.inside; nothing = (refl, none) })
tossed_none limits s before after tally (stop.Packet (fault.BadField n)) none u = inl (record { fault = u.fault; inside = u.inside; nothing = (refl, none) })
