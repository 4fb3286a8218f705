-- Books stay good: a train put in whose authority is apart from the others', a train taken out.
use Rattle.std.proofs.Common.{ℕ}
use Rattle.std.specs.Prelude.{◌==◌, not}
use Rattle.std.proofs.lemmas.List.Elements.{All-from_recursion, recursion_from_All, All-filter}
use Rattle.rbc_model.specs.Trains.{Train}
use Rattle.rbc_model.specs.Events.{with_train}
use Rattle.rbc_model.specs.Histories.{AuthoritiesAreApart}
use Rattle.rbc_scene_laws.specs.Good.{IsGoodTrain}
use Rattle.rbc_scene_laws.proofs.TrainListLemmas.{each_with_train}
use Rattle.rbc_scene_laws.proofs.BookLemmas.{NumbersDiffer-with_train, NumbersDiffer-without_train, AuthoritiesAreApart-without_train}
use Rattle.rbc_book.specs.Books.{Book, IsGoodBook, scene_of, book_with, book_without}

pub good_book-with : (book : Book) (train : Train) → IsGoodBook book → IsGoodTrain book.track train → AuthoritiesAreApart book.track (with_train (scene_of book.trains) train) → IsGoodBook (book_with book train)
good_book-with book train good fine apart =
    let scene = scene_of book.trains in
    record {
      trains = All-from_recursion (IsGoodTrain book.track) (with_train scene train).trains (each_with_train (IsGoodTrain book.track) scene train (recursion_from_All (IsGoodTrain book.track) book.trains good.trains) fine);
      numbers_differ = NumbersDiffer-with_train scene train good.numbers_differ;
      apart = apart;
    }

pub good_book-without : (book : Book) (number : ℕ) → IsGoodBook book → IsGoodBook (book_without book number)
good_book-without book number good =
    let scene = scene_of book.trains in
    record {
      trains = All-filter (λ (t : Train). not (t.report.train == number)) (IsGoodTrain book.track) book.trains good.trains;
      numbers_differ = NumbersDiffer-without_train scene number good.numbers_differ;
      apart = AuthoritiesAreApart-without_train book.track scene number good.apart;
    }
