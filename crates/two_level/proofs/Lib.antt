mod Letters
mod MarkedStrings
mod ContextPlaces
mod KeptStrings
mod SpelledStrings
