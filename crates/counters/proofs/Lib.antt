pub mod CounterLaws
