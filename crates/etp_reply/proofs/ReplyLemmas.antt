-- The first request.
use Rattle.std.proofs.Common.{◌≡◌, ℕ, refl}
use Rattle.etp_command.specs.Values.{request_from}
use Rattle.etp_command.specs.declared.request.Request as Program
use Rattle.etp_command.specs.declared.request.Request.TheVariants.{Blank, Long, Bad, Order, File, Load, Withdraw, Query}
use Rattle.etp_command.specs.declared.request.ListOrder.{ListOrder}
use Rattle.etp_print.specs.Texts.{Reply}
use Rattle.etp_desk.specs.States.{State}
use Rattle.etp_reply.specs.Shelves.{KnownShelf}
use Rattle.etp_reply.specs.Replies.{OpenedReply, FirstReply}

-- the first request that isn't blank and doesn't set the order opens the list of order 4
pub first-reply : (s : KnownShelf) (request : Program.Request) (n : ℕ) → (request ≡ Blank → ⊥) → ((k : ListOrder) → request ≡ Order k → ⊥) → (reply : Reply) (after : State)
    → OpenedReply s n (request_from request) reply after → FirstReply s n (request_from request) reply after
first-reply s Blank n b k reply after h = absurd (b refl)
first-reply s Long n b k reply after h = h
first-reply s Bad n b k reply after h = h
first-reply s (Order o) n b k reply after h = absurd (k o refl)
first-reply s (File w) n b k reply after h = h
first-reply s (Load w) n b k reply after h = h
first-reply s (Withdraw w) n b k reply after h = h
first-reply s (Query q) n b k reply after h = h
